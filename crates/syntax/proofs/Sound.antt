-- What a reader of a line reads is spelled as the grammar says: from the place where it began to the place where it ended stand the tokens of
-- its syntax. Over any kind of place; and for a line as a list of tokens.
use mathlib.Core.Path.{◌≡◌, refl, sym, ◌∙◌, ap}
use mathlib.Core.Logic.{inl, inr}
use mathlib.Core.Bool.{Bool, true, false, cond, ◌&&◌}
use mathlib.Core.List.{List, [], ◌∷◌, ◌++◌, append-nil}
use mathlib.Core.Option.{Option, none, some}
use Prim.Native.Nat.{ℕ, zero, suc, ◌+◌, ◌*◌}
use native.Mathlib.Omega.{arith}
use lib.Dec.{eqb}
use lib.ListN.{length}
use Rattle.rules.specs.declared.Operator.TheVariants.{Sum, Product, Maximum}
use Rattle.syntax.specs.Bytes.{Token}
use Rattle.syntax.specs.Grammar.{Lead, item, Line, sg, show_digits, show_more, show_name, show_declared, show_signed, show_item, show_operator, show_kind, show_clause, show_clauses, show_line}
use Rattle.syntax.specs.Reader.{Parsed, broken, done, Reader, kind, sees, says, expects, wants, finish, read_name, is_digits, read_digits, given, read_rel, read_operator, read_lead, read_expr, read_ref, read_more, read_list, read_declared, read_declare, read_signed, read_item, read_give, read_kind, read_threads, read_clause, read_clauses, read_directive, read_loop, read_assign, read_when, read_end, read_start, read_line, first, rest, syntax_of, parse}
use Rattle.syntax.specs.Spelled.{Spells, here, token}
use Rattle.syntax.proofs.SoundExpr.{Sound, sees_sound, says_sound, lead_sound, rel_sound, sounds}
use Rattle.syntax.proofs.Spelling.{not_done, same_done, bound, chosen, conded, tokenly, kind_is, ◌▸◌, expects_sound, wants_sound, name_sound, digits_sound}

module _ {S : Type 0} (peek : S → Option Token) (skip : S → S) where
  pub more_sound : {A : Type 0} (r : Reader S A) (sh : A → List Token) → Sound peek skip r sh → (f : ℕ)
      → Sound peek skip (read_more peek skip f r) (show_more sh)
  unfolding read_more show_more
  more_sound r sh i zero s u a h = absurd (not_done h)
  more_sound r sh i (suc f) s u a h = elim (chosen (sees peek skip "," s) _ _ h) [
    | inl c ↦
        bound (r (skip s)) _ c.1 λ x m1 h1 k1.
        bound (read_more peek skip f r m1) _ k1 λ xs m2 h2 k2.
        same_done (λ e u. Spells peek skip s (show_more sh e) u) k2
        (sees_sound peek skip "," s c.0 ▸ (i (skip s) m1 x h1 ▸ more_sound r sh i f m1 m2 xs h2))
    | inr c ↦ same_done (λ e u. Spells peek skip s (show_more sh e) u) c.1 here
  ]

  name_is : Sound peek skip (read_name peek skip) show_name
  name_is s u a h = name_sound peek skip s h

  declared_sound : Sound peek skip (read_declared peek skip) show_declared
  declared_sound s u a h =
      bound (read_name peek skip s) _ h λ x m1 h1 k1.
      elim (chosen (sees peek skip "(" m1) _ _ k1) [
        | inl c ↦
            bound (read_digits peek skip (skip m1)) _ c.1 λ d m2 h2 k2.
            elim (chosen (sees peek skip "," m2) _ _ k2) [
              | inl e ↦
                  bound (read_digits peek skip (skip m2)) _ e.1 λ n m3 h3 k3.
                  bound (expects peek skip ")" m3) _ k3 λ _ m4 h4 k4.
                  same_done (λ e u. Spells peek skip s (show_declared e) u) k4
                  (name_sound peek skip s h1
                  ▸ (sees_sound peek skip "(" m1 c.0
                  ▸ (digits_sound peek skip (skip m1) h2
                  ▸ (sees_sound peek skip "," m2 e.0 ▸ (digits_sound peek skip (skip m2) h3 ▸ expects_sound peek skip ")" m3 h4)))))
              | inr e ↦
                  bound (expects peek skip ")" m2) _ e.1 λ _ m3 h3 k3.
                  same_done (λ e u. Spells peek skip s (show_declared e) u) k3
                  (name_sound peek skip s h1
                  ▸ (sees_sound peek skip "(" m1 c.0 ▸ (digits_sound peek skip (skip m1) h2 ▸ expects_sound peek skip ")" m2 h3)))
            ]
        | inr c ↦ same_done (λ e u. Spells peek skip s (show_declared e) u) c.1 (name_sound peek skip s h1)
      ]

  declare_sound : (f : ℕ) → Sound peek skip (read_declare peek skip f) show_line
  unfolding read_declare show_line
  declare_sound f s u a h =
      bound (wants peek skip "integer" s) _ h λ _ m1 h1 k1.
      bound (read_declared peek skip m1) _ k1 λ d m2 h2 k2.
      bound (read_more peek skip f (read_declared peek skip) m2) _ k2 λ ds m3 h3 k3.
      same_done (λ e u. Spells peek skip s (show_line e) u) k3
      (wants_sound peek skip "integer" s h1
      ▸ (declared_sound m1 m2 d h2 ▸ more_sound (read_declared peek skip) show_declared declared_sound f m2 m3 ds h3))

  signed_sound : {A : Type 0} (mk : Lead → List ℕ → A) (sh : A → List Token) → ((l : Lead) (d : List ℕ) → sh (mk l d) ≡ show_signed l d)
      → Sound peek skip (read_signed peek skip mk) sh
  signed_sound mk sh e s u a h =
      bound (read_lead peek skip s) _ h λ l m1 h1 k1.
      bound (read_digits peek skip m1) _ k1 λ d m2 h2 k2.
      same_done (λ x u. Spells peek skip s (sh x) u) k2 (rw (e l d) (lead_sound peek skip s m1 l h1 ▸ digits_sound peek skip m1 h2))

  item_sound : Sound peek skip (read_item peek skip) show_item
  item_sound s u a h = elim (chosen (is_digits peek skip s && sees peek skip "*" (skip s)) _ _ h) [
    | inl c ↦
        bound (read_digits peek skip s) _ c.1 λ r m1 h1 k1.
        bound (expects peek skip "*" m1) _ k1 λ _ m2 h2 k2.
        bound (read_lead peek skip m2) _ k2 λ l m3 h3 k3.
        bound (read_digits peek skip m3) _ k3 λ d m4 h4 k4.
        same_done (λ x u. Spells peek skip s (show_item x) u) k4
        ((digits_sound peek skip s h1 ▸ expects_sound peek skip "*" m1 h2) ▸ (lead_sound peek skip m2 m3 l h3 ▸ digits_sound peek skip m3 h4))
    | inr c ↦ signed_sound (item none) show_item (λ l d. refl) s u a c.1
  ]

  list_sound : {A : Type 0} (r : Reader S A) (sh : A → List Token) → Sound peek skip r sh → (f : ℕ)
      → Sound peek skip (read_list peek skip f r (λ x xs. (x, xs))) (λ (x, xs). sh x ++ show_more sh xs)
  list_sound r sh h f s u a k =
      bound (r s) _ k λ x m1 h1 k1.
      bound (read_more peek skip f r m1) _ k1 λ xs m2 h2 k2.
      same_done (λ (x, xs) u. Spells peek skip s (sh x ++ show_more sh xs) u) k2 (h s m1 x h1 ▸ more_sound r sh h f m1 m2 xs h2)

  give_sound : (f : ℕ) → Sound peek skip (read_give peek skip f) show_line
  unfolding read_give show_line
  give_sound f s u a h =
      bound (wants peek skip "data" s) _ h λ _ m1 h1 k1.
      bound (read_name peek skip m1) _ k1 λ x m2 h2 k2.
      bound (expects peek skip "/" m2) _ k2 λ _ m3 h3 k3.
      bound (read_list peek skip f (read_item peek skip) (λ i is. (i, is)) m3) _ k3 λ is m4 h4 k4.
      bound (expects peek skip "/" m4) _ k4 λ _ m5 h5 k5.
      same_done (λ e u. Spells peek skip s (show_line e) u) k5
      (wants_sound peek skip "data" s h1 ▸ (name_sound peek skip m1 h2 ▸ (expects_sound peek skip "/" m2 h3
      ▸ (list_sound (read_item peek skip) show_item item_sound f m3 m4 is h4 ▸ expects_sound peek skip "/" m4 h5))))

  operator_sound : Sound peek skip (read_operator peek skip) show_operator
  operator_sound s u o h = go (sees peek skip "+" s) (sees peek skip "*" s) (says peek skip "max" s) refl refl refl h
    where
      go : (a b c : Bool) → sees peek skip "+" s ≡ a → sees peek skip "*" s ≡ b → says peek skip "max" s ≡ c
          → given peek skip (cond a (some Sum) (cond b (some Product) (cond c (some Maximum) none))) s ≡ done o u → Spells peek skip s (show_operator o) u
      go true b c ea eb ec h = same_done (λ o u. Spells peek skip s (show_operator o) u) h (sees_sound peek skip "+" s ea)
      go false true c ea eb ec h = same_done (λ o u. Spells peek skip s (show_operator o) u) h (sees_sound peek skip "*" s eb)
      go false false true ea eb ec h = same_done (λ o u. Spells peek skip s (show_operator o) u) h (says_sound peek skip "max" s ec)
      go false false false ea eb ec h = absurd (not_done h)

  kind_sound : Sound peek skip (read_kind peek skip) show_kind
  kind_sound s u a h = elim (chosen (says peek skip "shared" s) _ _ h) [
    | inl c ↦
        bound (expects peek skip "(" (skip s)) _ c.1 λ _ m1 h1 k1.
        same_done (λ e u. Spells peek skip s (show_kind e) u) k1 (says_sound peek skip "shared" s c.0 ▸ expects_sound peek skip "(" (skip s) h1)
    | inr c ↦ elim (chosen (says peek skip "lastprivate" s) _ _ c.1) [
      | inl d ↦
          bound (expects peek skip "(" (skip s)) _ d.1 λ _ m1 h1 k1.
          same_done (λ e u. Spells peek skip s (show_kind e) u) k1
          (says_sound peek skip "lastprivate" s d.0 ▸ expects_sound peek skip "(" (skip s) h1)
      | inr d ↦ elim (chosen (says peek skip "firstprivate" s) _ _ d.1) [
        | inl e ↦
            bound (expects peek skip "(" (skip s)) _ e.1 λ _ m1 h1 k1.
            same_done (λ e u. Spells peek skip s (show_kind e) u) k1
            (says_sound peek skip "firstprivate" s e.0 ▸ expects_sound peek skip "(" (skip s) h1)
        | inr e ↦
            bound (wants peek skip "reduction" s) _ e.1 λ _ m1 h1 k1.
            bound (expects peek skip "(" m1) _ k1 λ _ m2 h2 k2.
            bound (read_operator peek skip m2) _ k2 λ o m3 h3 k3.
            bound (expects peek skip ":" m3) _ k3 λ _ m4 h4 k4.
            same_done (λ e u. Spells peek skip s (show_kind e) u) k4
            (wants_sound peek skip "reduction" s h1
            ▸ (expects_sound peek skip "(" m1 h2 ▸ (operator_sound m2 m3 o h3 ▸ expects_sound peek skip ":" m3 h4)))
      ]
    ]
  ]

  threads_sound : Sound peek skip (read_threads peek skip) (λ p. sg "(" ++ (show_digits p ++ sg ")"))
  threads_sound s u a h =
      bound (expects peek skip "(" s) _ h λ _ m1 h1 k1.
      bound (read_digits peek skip m1) _ k1 λ p m2 h2 k2.
      bound (expects peek skip ")" m2) _ k2 λ _ m3 h3 k3.
      same_done (λ e u. Spells peek skip s (sg "(" ++ (show_digits e ++ sg ")")) u) k3
      (expects_sound peek skip "(" s h1 ▸ (digits_sound peek skip m1 h2 ▸ expects_sound peek skip ")" m2 h3))

  clause_sound : (f : ℕ) → Sound peek skip (read_clause peek skip f) show_clause
  clause_sound f s u a h = elim (chosen (says peek skip "num_threads" s) _ _ h) [
    | inl c ↦
        bound (read_threads peek skip (skip s)) _ c.1 λ p m1 h1 k1.
        same_done (λ e u. Spells peek skip s (show_clause e) u) k1 (says_sound peek skip "num_threads" s c.0 ▸ threads_sound (skip s) m1 p h1)
    | inr c ↦ elim (chosen (says peek skip "schedule" s) _ _ c.1) [
      | inl d ↦
          bound (expects peek skip "(" (skip s)) _ d.1 λ _ m1 h1 k1.
          bound (wants peek skip "static" m1) _ k1 λ _ m2 h2 k2.
          bound (expects peek skip ")" m2) _ k2 λ _ m3 h3 k3.
          same_done (λ e u. Spells peek skip s (show_clause e) u) k3
          (says_sound peek skip "schedule" s d.0
          ▸ (expects_sound peek skip "(" (skip s) h1 ▸ (wants_sound peek skip "static" m1 h2 ▸ expects_sound peek skip ")" m2 h3)))
      | inr d ↦
          bound (read_kind peek skip s) _ d.1 λ k m1 h1 k1.
          bound (read_name peek skip m1) _ k1 λ x m2 h2 k2.
          bound (read_more peek skip f (read_name peek skip) m2) _ k2 λ ys m3 h3 k3.
          bound (expects peek skip ")" m3) _ k3 λ _ m4 h4 k4.
          same_done (λ e u. Spells peek skip s (show_clause e) u) k4
          (kind_sound s m1 k h1
          ▸ ((name_sound peek skip m1 h2 ▸ more_sound (read_name peek skip) show_name name_is f m2 m3 ys h3) ▸ expects_sound peek skip ")" m3 h4))
    ]
  ]

  clauses_sound : (f : ℕ) → Sound peek skip (read_clauses peek skip f) show_clauses
  unfolding read_clauses show_clauses
  clauses_sound zero s u a h = absurd (not_done h)
  clauses_sound (suc f) s u a h = elim (chosen (eqb (kind (peek s)) 0) _ _ h) [
    | inl c ↦ same_done (λ e u. Spells peek skip s (show_clauses e) u) c.1 here
    | inr c ↦
        bound (read_clause peek skip f s) _ c.1 λ x m1 h1 k1.
        bound (read_clauses peek skip f m1) _ k1 λ xs m2 h2 k2.
        same_done (λ e u. Spells peek skip s (show_clauses e) u) k2 (clause_sound f s m1 x h1 ▸ clauses_sound f m1 m2 xs h2)
  ]

  directive_sound : (f : ℕ) → Sound peek skip (read_directive peek skip f) show_line
  unfolding read_directive show_line
  directive_sound f s u a h = elim (chosen (says peek skip "end" (skip s)) _ _ h) [
    | inl c ↦
        bound (expects peek skip "!$omp" s) _ c.1 λ _ m1 h1 k1.
        bound (wants peek skip "end" m1) _ k1 λ _ m2 h2 k2.
        bound (wants peek skip "parallel" m2) _ k2 λ _ m3 h3 k3.
        bound (wants peek skip "do" m3) _ k3 λ _ m4 h4 k4.
        same_done (λ e u. Spells peek skip s (show_line e) u) k4
        (expects_sound peek skip "!$omp" s h1
        ▸ (wants_sound peek skip "end" m1 h2 ▸ (wants_sound peek skip "parallel" m2 h3 ▸ wants_sound peek skip "do" m3 h4)))
    | inr c ↦
        bound (expects peek skip "!$omp" s) _ c.1 λ _ m1 h1 k1.
        bound (wants peek skip "parallel" m1) _ k1 λ _ m2 h2 k2.
        bound (wants peek skip "do" m2) _ k2 λ _ m3 h3 k3.
        bound (read_clauses peek skip f m3) _ k3 λ x m4 h4 k4.
        same_done (λ e u. Spells peek skip s (show_line e) u) k4
        (expects_sound peek skip "!$omp" s h1 ▸ (wants_sound peek skip "parallel" m1 h2 ▸ (wants_sound peek skip "do" m2 h3
        ▸ clauses_sound f m3 m4 x h4)))
  ]

  loop_sound : (f : ℕ) → Sound peek skip (read_loop peek skip f) show_line
  unfolding read_loop show_line
  loop_sound f s u a h =
      bound (wants peek skip "do" s) _ h λ _ m1 h1 k1.
      bound (read_name peek skip m1) _ k1 λ v m2 h2 k2.
      bound (expects peek skip "=" m2) _ k2 λ _ m3 h3 k3.
      bound (read_lead peek skip m3) _ k3 λ l m4 h4 k4.
      bound (read_digits peek skip m4) _ k4 λ m m5 h5 k5.
      bound (expects peek skip "," m5) _ k5 λ _ m6 h6 k6.
      bound (read_lead peek skip m6) _ k6 λ k m7 h7 k7.
      bound (read_digits peek skip m7) _ k7 λ n m8 h8 k8.
      same_done (λ e u. Spells peek skip s (show_line e) u) k8
      (wants_sound peek skip "do" s h1 ▸ (name_sound peek skip m1 h2 ▸ (expects_sound peek skip "=" m2 h3
      ▸ ((lead_sound peek skip m3 m4 l h4 ▸ digits_sound peek skip m4 h5)
      ▸ (expects_sound peek skip "," m5 h6 ▸ (lead_sound peek skip m6 m7 k h7 ▸ digits_sound peek skip m7 h8))))))

  assign_sound : (f : ℕ) → Sound peek skip (read_assign peek skip f) show_line
  unfolding read_assign show_line
  assign_sound f s u a h =
      bound (read_ref peek skip f s) _ h λ r m1 h1 k1.
      bound (expects peek skip "=" m1) _ k1 λ _ m2 h2 k2.
      bound (read_expr peek skip f m2) _ k2 λ e m3 h3 k3.
      same_done (λ e u. Spells peek skip s (show_line e) u) k3
      ((sounds peek skip f).ref s m1 r h1 ▸ (expects_sound peek skip "=" m1 h2 ▸ (sounds peek skip f).expr m2 m3 e h3))

  when_sound : (f : ℕ) → Sound peek skip (read_when peek skip f) show_line
  unfolding read_when show_line
  when_sound f s u a h =
      bound (wants peek skip "if" s) _ h λ _ m1 h1 k1.
      bound (expects peek skip "(" m1) _ k1 λ _ m2 h2 k2.
      bound (read_expr peek skip f m2) _ k2 λ x m3 h3 k3.
      bound (read_rel peek skip m3) _ k3 λ r m4 h4 k4.
      bound (read_expr peek skip f m4) _ k4 λ y m5 h5 k5.
      bound (expects peek skip ")" m5) _ k5 λ _ m6 h6 k6.
      bound (wants peek skip "then" m6) _ k6 λ _ m7 h7 k7.
      same_done (λ e u. Spells peek skip s (show_line e) u) k7
      (wants_sound peek skip "if" s h1 ▸ (expects_sound peek skip "(" m1 h2 ▸ ((sounds peek skip f).expr m2 m3 x h3
      ▸ (rel_sound peek skip m3 m4 r h4
      ▸ ((sounds peek skip f).expr m4 m5 y h5 ▸ (expects_sound peek skip ")" m5 h6 ▸ wants_sound peek skip "then" m6 h7))))))

  end_sound : (f : ℕ) (s u : S) (a : Line) → says peek skip "end" s ≡ true → read_end peek skip f s ≡ done a u → Spells peek skip s (show_line a) u
  unfolding read_end show_line
  end_sound f s u a e h = elim (chosen (says peek skip "if" (skip s)) _ _ h) [
    | inl c ↦
        bound (wants peek skip "if" (skip s)) _ c.1 λ _ m1 h1 k1.
        same_done (λ e u. Spells peek skip s (show_line e) u) k1 (says_sound peek skip "end" s e ▸ wants_sound peek skip "if" (skip s) h1)
    | inr c ↦
        bound (wants peek skip "do" (skip s)) _ c.1 λ _ m1 h1 k1.
        same_done (λ e u. Spells peek skip s (show_line e) u) k1 (says_sound peek skip "end" s e ▸ wants_sound peek skip "do" (skip s) h1)
  ]

  start_sound : (f : ℕ) → Sound peek skip (read_start peek skip f) show_line
  unfolding read_start show_line
  start_sound f s u a h = elim (chosen (says peek skip "integer" s) _ _ h) [
    | inl c ↦ declare_sound f s u a c.1
    | inr c ↦ elim (chosen (says peek skip "data" s) _ _ c.1) [
      | inl d ↦ give_sound f s u a d.1
      | inr d ↦ elim (chosen (sees peek skip "!$omp" s) _ _ d.1) [
        | inl e ↦ directive_sound f s u a e.1
        | inr e ↦ elim (chosen (says peek skip "do" s) _ _ e.1) [
          | inl g ↦ loop_sound f s u a g.1
          | inr g ↦ elim (chosen (says peek skip "if" s) _ _ g.1) [
            | inl i ↦ when_sound f s u a i.1
            | inr i ↦ elim (chosen (says peek skip "else" s) _ _ i.1) [
              | inl j ↦ same_done (λ e u. Spells peek skip s (show_line e) u) j.1 (says_sound peek skip "else" s j.0)
              | inr j ↦ elim (chosen (says peek skip "end" s) _ _ j.1) [
                | inl k ↦ end_sound f s u a k.0 k.1
                | inr k ↦ elim (chosen (says peek skip "endif" s) _ _ k.1) [
                  | inl l ↦ same_done (λ e u. Spells peek skip s (show_line e) u) l.1 (says_sound peek skip "endif" s l.0)
                  | inr l ↦ elim (chosen (says peek skip "enddo" s) _ _ l.1) [
                    | inl m ↦ same_done (λ e u. Spells peek skip s (show_line e) u) m.1 (says_sound peek skip "enddo" s m.0)
                    | inr m ↦ assign_sound f s u a m.1
                  ]
                ]
              ]
            ]
          ]
        ]
      ]
    ]
  ]

  pub line_sound : (f : ℕ) (s u : S) (l : Line) → read_line peek skip f s ≡ done l u → Spells peek skip s (show_line l) u × (peek u ≡ none)
  unfolding read_line tokenly
  line_sound f s u l h =
      bound (read_start peek skip f s) _ h λ x m1 h1 k1.
      bound (finish peek skip m1) _ k1 λ _ m2 h2 k2.
      let c = conded (eqb (kind (peek m1)) 0) (done tt m1) h2 in
      same_done (λ l u. Spells peek skip s (show_line l) u × (peek u ≡ none)) k2
      (same_done (λ _ u. Spells peek skip s (show_line x) u × (peek u ≡ none)) c.1 (start_sound f s m1 x h1, sym (kind_is (peek m1) 0 c.0)))

-- A line as a list of tokens

pub first_is : (ts : List Token) {t : Token} → first ts ≡ some t → ts ≡ t ∷ rest ts
first_is [] h = absurd (let z : ◌≡◌ {A = ℕ} 0 1 = cc in omega arith)
first_is (x ∷ xs) h = cc (h)

pub none_first : (ts : List Token) → first ts ≡ none → ts ≡ []
none_first [] h = refl
none_first (x ∷ xs) h = absurd (let z : ◌≡◌ {A = ℕ} 0 1 = cc in omega arith)

pub spells_list : {ts us xs : List Token} → Spells first rest ts xs us → ts ≡ xs ++ us
spells_list here = refl
spells_list (token {s = ts} {t = t} e h) = first_is ts e ∙ ap (λ (ys : List Token). t ∷ ys) (spells_list h)

-- tokens that are read as a line are its tokens
pub parse_sound : (ts : List Token) (l : Line) → parse ts ≡ some l → ts ≡ show_line l
unfolding parse
parse_sound ts l h = go (read_line first rest (3 * length ts + 4) ts) refl h
  where
    go : (r : Parsed (List Token) Line) → read_line first rest (3 * length ts + 4) ts ≡ r → syntax_of r ≡ some l → ts ≡ show_line l
    go broken e h = absurd (let z : ◌≡◌ {A = ℕ} 0 1 = cc in omega arith)
    go (done x us) e h =
        let (p, q) = line_sound first rest (3 * length ts + 4) ts us x e in
        let d : x ≡ l = cc (h) in
        spells_list p ∙ ap (λ vs. show_line x ++ vs) (none_first us q) ∙ append-nil (show_line x) ∙ ap show_line d
