-- A line that is spelled as the grammar says, and ends there, is read: with fuel for three calls a token. Over any kind of place; and for a
-- line as a list of tokens.
use mathlib.Core.Path.{◌≡◌, refl, sym, ap, subst}
use mathlib.Core.Bool.{Bool, true, false, ◌&&◌}
use mathlib.Core.List.{List, [], ◌∷◌, ◌++◌, append-nil}
use mathlib.Core.Option.{Option, none, some}
use Prim.Native.Nat.{ℕ, zero, suc, ◌+◌, ◌*◌, ◌≤◌, ◌<◌}
use Prim.Native.String.{String}
use native.Mathlib.Omega.{arith}
use lib.Dec.{eqb}
use lib.ListN.{length, length-append}
use Rattle.int32.specs.declared.Relation.{Relation}
use Rattle.int32.specs.declared.Relation.TheVariants.{Equal, Unequal, Less, AtMost, Greater, AtLeast}
use Rattle.rules.specs.declared.Operator.{Operator}
use Rattle.rules.specs.declared.Operator.TheVariants.{Sum, Product, Maximum}
use Rattle.syntax.specs.declared.ClauseKind.{ClauseKind}
use Rattle.syntax.specs.declared.ClauseKind.TheVariants.{Shared, Lastprivate, Firstprivate, Reduction}
use Rattle.syntax.specs.Bytes.{bytes, Token, digits, sign, word_of}
use Rattle.syntax.specs.Grammar.{Lead, bare, plus, minus, Expr, Ref, single, element, Declared, one, array, grid, Item, item, Clause, clause, threads, static, assign, when, otherwise, end_if, Line, declare, give, direct, loop, inside, end_do, close, show_lead, show_rel, show_more, show_list, show_name, show, show_ref, show_declared, show_signed, show_item, show_operator, show_kind, show_clause, show_clauses, show_line}
use Rattle.syntax.specs.Reader.{done, Reader, kind, is, sees, says, read_name, is_digits, given, operator_of, read_operator, read_more, read_declared, read_declare, read_signed, read_item, read_give, read_kind, read_names, read_clause, read_clauses, read_directive, read_loop, read_assign, read_when, read_end, read_start, read_line, first, rest, syntax_of, parse}
use Rattle.syntax.specs.Spelled.{Spells, here, token}
use Rattle.syntax.proofs.CompleteExpr.{cond_true, yes_choose, no_choose, binds, and_no, Low, Top, Unsigned, splits, expect_it, want_it, name_it, digits_it, lead_it, rel_it, close_ends, closed, completes}
use Rattle.syntax.proofs.TestLaws.{both_hold}

module _ {S : Type 0} (peek : S → Option Token) (skip : S → S) where
  abbrev Sp : S → List Token → S → Type 0
  Sp s ts u = Spells peek skip s ts u

  -- Lists

  more_begins : {A : Type 0} (sh : A → List Token) (Q : Option Token → Type 0) → Q (some (sign (bytes ","))) → (xs : List A) {s u : S}
      → Sp s (show_more sh xs) u → Q (peek u) → Q (peek s)
  unfolding show_more
  more_begins sh Q q [] here p = p
  more_begins sh Q q (x ∷ xs) (token e h) p = subst Q (sym e) q

  more_count : {A : Type 0} (sh : A → List Token) (xs : List A) → length xs ≤ length (show_more sh xs)
  unfolding show_more
  more_count sh [] = omega arith
  more_count sh (x ∷ xs) = omega (arith, more_count sh xs, length-append (sh x) (show_more sh xs))

  more_it : {A : Type 0} (r : Reader S A) (sh : A → List Token) (Q : Option Token → Type 0) → Q (some (sign (bytes ","))) →
      ((a : A) (s u : S) → Sp s (sh a) u → Q (peek u) → r s ≡ done a u) →
      (f : ℕ) (xs : List A) (s u : S) → length xs < f → Sp s (show_more sh xs) u → Q (peek u) → sees peek skip "," u ≡ false
      → read_more peek skip f r s ≡ done xs u
  unfolding read_more show_more
  more_it r sh Q q i zero xs s u b h p n = absurd (omega arith)
  more_it r sh Q q i (suc f) [] s u b here p n = no_choose _ _ n refl
  more_it r sh Q q i (suc f) (x ∷ xs) s u b (token e h) p n =
      splits peek skip (sh x) h λ m h1 h2.
      yes_choose _ _ (ap (is (sign (bytes ","))) e)
      (binds _ (i x (skip s) m h1 (more_begins sh Q q xs h2 p)) (binds _ (more_it r sh Q q i f xs m u (omega arith) h2 p n) refl))

  -- Lines

  declared_it : (d : Declared) (s u : S) → Sp s (show_declared d) u → Low (peek u) → read_declared peek skip s ≡ done d u
  declared_it (one x) s u (token e here) p = binds _ (name_it peek skip (token e here)) (no_choose _ _ p refl)
  declared_it (array x d) s u (token e (token e2 (token e3 (token e4 here)))) p =
      binds _ (name_it peek skip (token e here)) (yes_choose _ _ (ap (is (sign (bytes "("))) e2)
      (binds _ (digits_it peek skip (token e3 here))
      (no_choose _ _ (ap (is (sign (bytes ","))) e4) (binds _ (expect_it peek skip ")" (token e4 here)) refl))))
  declared_it (grid x m n) s u (token e (token e2 (token e3 (token e4 (token e5 (token e6 here)))))) p =
      binds _ (name_it peek skip (token e here)) (yes_choose _ _ (ap (is (sign (bytes "("))) e2)
      (binds _ (digits_it peek skip (token e3 here)) (yes_choose _ _ (ap (is (sign (bytes ","))) e4)
      (binds _ (digits_it peek skip (token e5 here)) (binds _ (expect_it peek skip ")" (token e6 here)) refl)))))

  declare_it : (f : ℕ) (d : Declared) (ds : List Declared) (s u : S) → length (show_line (declare d ds)) ≤ f → Sp s (show_line (declare d ds)) u
      → peek u ≡ none → read_declare peek skip f s ≡ done (declare d ds) u
  unfolding read_declare show_line
  declare_it f d ds s u b (token e h) n =
      splits peek skip (show_declared d) h λ m h1 h2.
      let p : Low (peek u) = ap (is (sign (bytes "("))) n in
      binds _ (want_it peek skip "integer" (token e here))
      (binds _ (declared_it d (skip s) m h1 (more_begins show_declared Low refl ds h2 p))
      (binds _ (more_it (read_declared peek skip) show_declared Low refl declared_it f ds m u
      (omega (arith, more_count show_declared ds, length-append (show_declared d) (show_more show_declared ds))) h2 p
      (ap (is (sign (bytes ","))) n)) refl))

  digits_unsigned : {d : List ℕ} {s u : S} → Sp s (digits d ∷ []) u → Unsigned (peek s)
  digits_unsigned (token e here) = (ap (is (sign (bytes "+"))) e, ap (is (sign (bytes "-"))) e)

  signed_it : {A : Type 0} (mk : Lead → List ℕ → A) (l : Lead) (d : List ℕ) (s u : S) → Sp s (show_signed l d) u
      → read_signed peek skip mk s ≡ done (mk l d) u
  signed_it mk l d s u h =
      splits peek skip (show_lead l) h λ m h1 h2.
      binds _ (lead_it peek skip l h1 (digits_unsigned h2)) (binds _ (digits_it peek skip h2) refl)

  abbrev Starless : Option Token → Type 0
  Starless o = is (sign (bytes "*")) o ≡ false

  item_it : (i : Item) (s u : S) → Sp s (show_item i) u → Starless (peek u) → read_item peek skip s ≡ done i u
  item_it (item none bare d) s u (token e here) p = no_choose _ _ (and_no (is_digits peek skip s) p) (signed_it (item none) bare d s u (token e here))
  item_it (item none plus d) s u (token e h) p =
      no_choose _ _ (ap (λ o. eqb (kind o) 3 && sees peek skip "*" (skip s)) e) (signed_it (item none) plus d s u (token e h))
  item_it (item none minus d) s u (token e h) p =
      no_choose _ _ (ap (λ o. eqb (kind o) 3 && sees peek skip "*" (skip s)) e) (signed_it (item none) minus d s u (token e h))
  item_it (item (some r) l d) s u (token e (token e2 h)) p =
      yes_choose _ _ (both_hold (ap (λ o. eqb (kind o) 3) e) (ap (is (sign (bytes "*"))) e2))
      (binds _ (digits_it peek skip (token e here))
      (binds _ (expect_it peek skip "*" (token e2 here)) (signed_it (item (some r)) l d (skip (skip s)) u h)))

  slash_ends : {s u : S} → Sp s (sign (bytes "/") ∷ []) u → Starless (peek s) × (sees peek skip "," s ≡ false)
  slash_ends (token e here) = (ap (is (sign (bytes "*"))) e, ap (is (sign (bytes ","))) e)

  give_it : (f : ℕ) (x : List ℕ) (i : Item) (is' : List Item) (s u : S) → length (show_line (give x i is')) ≤ f → Sp s (show_line (give x i is')) u
      → read_give peek skip f s ≡ done (give x i is') u
  unfolding read_give show_line
  give_it f x i is' s u b (token e (token e2 (token e3 h))) =
      splits peek skip (show_item i ++ show_more show_item is') h λ m2 h12 h3.
      splits peek skip (show_item i) h12 λ m1 h1 h2.
      let c1 = length-append (show_item i ++ show_more show_item is') (sign (bytes "/") ∷ []) in
      let c2 = length-append (show_item i) (show_more show_item is') in
      binds _ (want_it peek skip "data" (token e here))
      (binds _ (name_it peek skip (token e2 here)) (binds _ (expect_it peek skip "/" (token e3 here))
      (binds _ (binds _ (item_it i (skip (skip (skip s))) m1 h1 (more_begins show_item Starless refl is' h2 (slash_ends h3).0))
      (binds _ (more_it (read_item peek skip) show_item Starless refl item_it f is' m1 m2 (omega (arith, more_count show_item is')) h2 (slash_ends h3).0
      (slash_ends h3).1) refl))
      (binds _ (expect_it peek skip "/" h3) refl))))

  names_it : (f : ℕ) (k : ClauseKind) (x : List ℕ) (xs : List (List ℕ)) (s u : S) → length xs < f
      → Sp s (show_list show_name x xs ++ (sign (bytes ")") ∷ [])) u
      → read_names peek skip f k s ≡ done (clause k x xs) u
  names_it f k x xs s u b (token e h) =
      splits peek skip (show_more show_name xs) h λ m h1 h2.
      binds _ (name_it peek skip (token e here))
      (binds _ (more_it (read_name peek skip) show_name (λ _. Unit {0}) tt (λ a s u h _. name_it peek skip h) f xs (skip s) m b h1 tt (closed peek skip h2))
      (binds _ (expect_it peek skip ")" h2) refl))

  -- no clause with names begins with `num_threads` or `schedule`
  kind_other : (k : ClauseKind) {s u : S} → Sp s (show_kind k) u → (says peek skip "num_threads" s ≡ false) × (says peek skip "schedule" s ≡ false)
  kind_other Shared (token e h) = (ap (is (word_of (bytes "num_threads"))) e, ap (is (word_of (bytes "schedule"))) e)
  kind_other Lastprivate (token e h) = (ap (is (word_of (bytes "num_threads"))) e, ap (is (word_of (bytes "schedule"))) e)
  kind_other Firstprivate (token e h) = (ap (is (word_of (bytes "num_threads"))) e, ap (is (word_of (bytes "schedule"))) e)
  kind_other (Reduction o) (token e h) = (ap (is (word_of (bytes "num_threads"))) e, ap (is (word_of (bytes "schedule"))) e)

  operator_it : (o : Operator) {s u : S} → Sp s (show_operator o) u → read_operator peek skip s ≡ done o u
  operator_it Sum (token {s = s} e here) = ap (λ t. given peek skip (operator_of t) s) e
  operator_it Product (token {s = s} e here) = ap (λ t. given peek skip (operator_of t) s) e
  operator_it Maximum (token {s = s} e here) = ap (λ t. given peek skip (operator_of t) s) e

  kind_it : (k : ClauseKind) (s u : S) → Sp s (show_kind k) u → read_kind peek skip s ≡ done k u
  kind_it Shared s u (token e h) = yes_choose _ _ (ap (is (word_of (bytes "shared"))) e) (binds _ (expect_it peek skip "(" h) refl)
  kind_it Lastprivate s u (token e h) =
      no_choose _ _ (ap (is (word_of (bytes "shared"))) e)
      (yes_choose _ _ (ap (is (word_of (bytes "lastprivate"))) e) (binds _ (expect_it peek skip "(" h) refl))
  kind_it Firstprivate s u (token e h) =
      no_choose _ _ (ap (is (word_of (bytes "shared"))) e) (no_choose _ _ (ap (is (word_of (bytes "lastprivate"))) e)
      (yes_choose _ _ (ap (is (word_of (bytes "firstprivate"))) e) (binds _ (expect_it peek skip "(" h) refl)))
  kind_it (Reduction o) s u (token e (token e2 h)) =
      splits peek skip (show_operator o) h λ m h1 h2.
      no_choose _ _ (ap (is (word_of (bytes "shared"))) e) (no_choose _ _ (ap (is (word_of (bytes "lastprivate"))) e)
      (no_choose _ _ (ap (is (word_of (bytes "firstprivate"))) e)
      (binds _ (want_it peek skip "reduction" (token e here))
      (binds _ (expect_it peek skip "(" (token e2 here))
      (binds _ (operator_it o h1) (binds _ (expect_it peek skip ":" h2) refl))))))

  clause_it : (f : ℕ) (c : Clause) (s u : S) → length (show_clause c) ≤ f → Sp s (show_clause c) u → read_clause peek skip f s ≡ done c u
  clause_it f (clause k x xs) s u b h =
      splits peek skip (show_kind k) h λ m h1 h2.
      let c1 = length-append (show_kind k) (show_list show_name x xs ++ (sign (bytes ")") ∷ [])) in
      let c2 = length-append (show_more show_name xs) (sign (bytes ")") ∷ []) in
      no_choose _ _ (kind_other k h1).0
      (no_choose _ _ (kind_other k h1).1 (binds _ (kind_it k s m h1) (names_it f k x xs m u (omega (arith, more_count show_name xs)) h2)))
  clause_it f (threads p) s u b (token e (token e2 (token e3 h))) =
      yes_choose _ _ (ap (is (word_of (bytes "num_threads"))) e)
      (binds _ (binds _ (expect_it peek skip "(" (token e2 here))
      (binds _ (digits_it peek skip (token e3 here)) (binds _ (expect_it peek skip ")" h) refl))) refl)
  clause_it f static s u b (token e (token e2 (token e3 h))) =
      no_choose _ _ (ap (is (word_of (bytes "num_threads"))) e)
      (yes_choose _ _ (ap (is (word_of (bytes "schedule"))) e)
      (binds _ (expect_it peek skip "(" (token e2 here))
      (binds _ (want_it peek skip "static" (token e3 here)) (binds _ (expect_it peek skip ")" h) refl))))

  -- the clauses are over at the line's end
  abbrev over : Option Token → Bool
  over o = eqb (kind o) 0

  clause_begins : (c : Clause) (ys : List Token) {s u : S} → Sp s (show_clause c ++ ys) u → over (peek s) ≡ false
  clause_begins (clause Shared x xs) ys (token e h) = ap over e
  clause_begins (clause Lastprivate x xs) ys (token e h) = ap over e
  clause_begins (clause Firstprivate x xs) ys (token e h) = ap over e
  clause_begins (clause (Reduction o) x xs) ys (token e h) = ap over e
  clause_begins (threads p) ys (token e h) = ap over e
  clause_begins static ys (token e h) = ap over e

  clause_long : (c : Clause) → 1 ≤ length (show_clause c)
  clause_long (clause Shared x xs) = omega arith
  clause_long (clause Lastprivate x xs) = omega arith
  clause_long (clause Firstprivate x xs) = omega arith
  clause_long (clause (Reduction o) x xs) = omega arith
  clause_long (threads p) = omega arith
  clause_long static = omega arith

  clauses_it : (f : ℕ) (cs : List Clause) (s u : S) → length (show_clauses cs) < f → Sp s (show_clauses cs) u → over (peek u) ≡ true
      → read_clauses peek skip f s ≡ done cs u
  unfolding read_clauses show_clauses
  clauses_it zero cs s u b h o = absurd (omega arith)
  clauses_it (suc f) [] s u b here o = yes_choose _ _ o refl
  clauses_it (suc f) (c ∷ cs) s u b h o =
      splits peek skip (show_clause c) h λ m h1 h2.
      let l = length-append (show_clause c) (show_clauses cs) in
      let k = clause_long c in
      no_choose _ _ (clause_begins c (show_clauses cs) h)
      (binds _ (clause_it f c s m (omega arith) h1) (binds _ (clauses_it f cs m u (omega arith) h2 o) refl))

  direct_it : (f : ℕ) (cs : List Clause) (s u : S) → length (show_line (direct cs)) ≤ f → Sp s (show_line (direct cs)) u → peek u ≡ none
      → read_directive peek skip f s ≡ done (direct cs) u
  unfolding read_directive show_line
  direct_it f cs s u l (token e (token e2 (token e3 h))) n =
      no_choose _ _ (ap (is (word_of (bytes "end"))) e2)
      (binds _ (expect_it peek skip "!$omp" (token e here))
      (binds _ (want_it peek skip "parallel" (token e2 here)) (binds _ (want_it peek skip "do" (token e3 here))
      (binds _ (clauses_it f cs (skip (skip (skip s))) u (omega arith) h (ap over n)) refl))))

  close_it : (f : ℕ) (s u : S) → Sp s (show_line close) u → read_directive peek skip f s ≡ done close u
  unfolding read_directive show_line
  close_it f s u (token e (token e2 (token e3 (token e4 here)))) =
      yes_choose _ _ (ap (is (word_of (bytes "end"))) e2)
      (binds _ (expect_it peek skip "!$omp" (token e here))
      (binds _ (want_it peek skip "end" (token e2 here))
      (binds _ (want_it peek skip "parallel" (token e3 here)) (binds _ (want_it peek skip "do" (token e4 here)) refl))))

  loop_it : (f : ℕ) (v : List ℕ) (l : Lead) (m : List ℕ) (k : Lead) (n : List ℕ) (s u : S) → Sp s (show_line (loop v l m k n)) u
      → read_loop peek skip f s ≡ done (loop v l m k n) u
  unfolding read_loop show_line
  loop_it f v l m k n s u (token e (token e2 (token e3 h))) =
      splits peek skip (show_signed l m) h λ m2 h12 r2.
      splits peek skip (show_lead l) h12 λ m1 h1 h2.
      splits peek skip (sign (bytes ",") ∷ []) r2 λ m3 h3 h45.
      splits peek skip (show_lead k) h45 λ m4 h4 h5.
      binds _ (want_it peek skip "do" (token e here)) (binds _ (name_it peek skip (token e2 here)) (binds _ (expect_it peek skip "=" (token e3 here))
      (binds _ (lead_it peek skip l h1 (digits_unsigned h2)) (binds _ (digits_it peek skip h2) (binds _ (expect_it peek skip "," h3)
      (binds _ (lead_it peek skip k h4 (digits_unsigned h5)) (binds _ (digits_it peek skip h5) refl)))))))

  equals_ends : {s u : S} → Sp s (sign (bytes "=") ∷ []) u → Low (peek s)
  equals_ends (token e here) = ap (is (sign (bytes "("))) e

  rel_ends : (r : Relation) {s u : S} → Sp s (show_rel r) u → Top (peek s)
  rel_ends Equal (token e here) = rw e ((refl, refl), refl)
  rel_ends Unequal (token e here) = rw e ((refl, refl), refl)
  rel_ends Less (token e here) = rw e ((refl, refl), refl)
  rel_ends AtMost (token e here) = rw e ((refl, refl), refl)
  rel_ends Greater (token e here) = rw e ((refl, refl), refl)
  rel_ends AtLeast (token e here) = rw e ((refl, refl), refl)

  end_ends : {s : S} → peek s ≡ none → Top (peek s)
  end_ends n = rw n ((refl, refl), refl)

  assign_it : (f : ℕ) (r : Ref) (x : Expr) (s u : S) → 3 * length (show_line (inside (assign r x))) + 4 ≤ f → Sp s (show_line (inside (assign r x))) u
      → peek u ≡ none →
      read_assign peek skip f s ≡ done (inside (assign r x)) u
  unfolding read_assign show_line
  assign_it f r x s u b h n =
      splits peek skip (show_ref r) h λ m1 h1 r1.
      splits peek skip (sign (bytes "=") ∷ []) r1 λ m2 h2 h3.
      let c = length-append (show_ref r) (sign (bytes "=") ∷ show x) in
      binds _ ((completes peek skip f).ref r s m1 (omega arith) h1 (equals_ends h2)) (binds _ (expect_it peek skip "=" h2)
      (binds _ ((completes peek skip f).expr x m2 u (omega arith) h3 (end_ends n)) refl))

  when_it : (f : ℕ) (a : Expr) (r : Relation) (b : Expr) (s u : S) → 3 * length (show_line (inside (when a r b))) + 4 ≤ f
      → Sp s (show_line (inside (when a r b))) u →
      read_when peek skip f s ≡ done (inside (when a r b)) u
  unfolding read_when show_line
  when_it f a r b s u l (token e (token e2 h)) =
      splits peek skip (show a) h λ m1 h1 r1.
      splits peek skip (show_rel r) r1 λ m2 h2 r2.
      splits peek skip (show b) r2 λ m3 h3 r3.
      splits peek skip (sign (bytes ")") ∷ []) r3 λ m4 h4 h5.
      let t = sign (bytes ")") ∷ word_of (bytes "then") ∷ [] in
      let c1 = length-append (show a) (show_rel r ++ (show b ++ (sign (bytes ")") ∷ word_of (bytes "then") ∷ []))) in
      let c2 = length-append (show_rel r) (show b ++ (sign (bytes ")") ∷ word_of (bytes "then") ∷ [])) in
      let c3 = length-append (show b) (sign (bytes ")") ∷ word_of (bytes "then") ∷ []) in
      binds _ (want_it peek skip "if" (token e here))
      (binds _ (expect_it peek skip "(" (token e2 here)) (binds _ ((completes peek skip f).expr a (skip (skip s)) m1 (omega arith) h1 (rel_ends r h2))
      (binds _ (rel_it peek skip r h2)
      (binds _ ((completes peek skip f).expr b m2 m3 (omega arith) h3 (close_ends peek skip h4))
      (binds _ (expect_it peek skip ")" h4) (binds _ (want_it peek skip "then" h5) refl))))))

  -- how a line begins decides which reader it goes to
  abbrev W : String → Option Token → Bool
  W t o = is (word_of (bytes t)) o

  start_it : (f : ℕ) (l : Line) (s u : S) → 3 * length (show_line l) + 4 ≤ f → Sp s (show_line l) u → peek u ≡ none → read_start peek skip f s ≡ done l u
  unfolding read_start show_line read_end show_ref
  start_it f (declare d ds) s u b (token e h) n = yes_choose _ _ (ap (W "integer") e) (declare_it f d ds s u (omega arith) (token e h) n)
  start_it f (give x i is') s u b (token e h) n =
      no_choose _ _ (ap (W "integer") e) (yes_choose _ _ (ap (W "data") e) (give_it f x i is' s u (omega arith) (token e h)))
  start_it f (direct cs) s u b (token e h) n =
      no_choose _ _ (ap (W "integer") e)
      (no_choose _ _ (ap (W "data") e) (yes_choose _ _ (ap (is (sign (bytes "!$omp"))) e) (direct_it f cs s u (omega arith) (token e h) n)))
  start_it f close s u b (token e h) n =
      no_choose _ _ (ap (W "integer") e)
      (no_choose _ _ (ap (W "data") e) (yes_choose _ _ (ap (is (sign (bytes "!$omp"))) e) (close_it f s u (token e h))))
  start_it f (loop v l m k j) s u b (token e h) n =
      no_choose _ _ (ap (W "integer") e)
      (no_choose _ _ (ap (W "data") e)
      (no_choose _ _ (ap (is (sign (bytes "!$omp"))) e) (yes_choose _ _ (ap (W "do") e) (loop_it f v l m k j s u (token e h)))))
  start_it f (inside (assign (single x) y)) s u b (token e h) n =
      no_choose _ _ (ap (W "integer") e)
      (no_choose _ _ (ap (W "data") e) (no_choose _ _ (ap (is (sign (bytes "!$omp"))) e) (no_choose _ _ (ap (W "do") e)
      (no_choose _ _ (ap (W "if") e)
      (no_choose _ _ (ap (W "else") e) (no_choose _ _ (ap (W "end") e) (no_choose _ _ (ap (W "endif") e) (no_choose _ _ (ap (W "enddo") e)
      (assign_it f (single x) y s u b (token e h) n)))))))))
  start_it f (inside (assign (element x i) y)) s u b (token e h) n =
      no_choose _ _ (ap (W "integer") e)
      (no_choose _ _ (ap (W "data") e) (no_choose _ _ (ap (is (sign (bytes "!$omp"))) e) (no_choose _ _ (ap (W "do") e)
      (no_choose _ _ (ap (W "if") e)
      (no_choose _ _ (ap (W "else") e) (no_choose _ _ (ap (W "end") e) (no_choose _ _ (ap (W "endif") e) (no_choose _ _ (ap (W "enddo") e)
      (assign_it f (element x i) y s u b (token e h) n)))))))))
  start_it f (inside (when a r c)) s u b (token e h) n =
      no_choose _ _ (ap (W "integer") e)
      (no_choose _ _ (ap (W "data") e) (no_choose _ _ (ap (is (sign (bytes "!$omp"))) e) (no_choose _ _ (ap (W "do") e)
      (yes_choose _ _ (ap (W "if") e) (when_it f a r c s u b (token e h))))))
  start_it f (inside otherwise) s u b (token e here) n =
      no_choose _ _ (ap (W "integer") e)
      (no_choose _ _ (ap (W "data") e) (no_choose _ _ (ap (is (sign (bytes "!$omp"))) e) (no_choose _ _ (ap (W "do") e)
      (no_choose _ _ (ap (W "if") e) (yes_choose _ _ (ap (W "else") e) refl)))))
  start_it f (inside (end_if true)) s u b (token e here) n =
      no_choose _ _ (ap (W "integer") e)
      (no_choose _ _ (ap (W "data") e) (no_choose _ _ (ap (is (sign (bytes "!$omp"))) e) (no_choose _ _ (ap (W "do") e)
      (no_choose _ _ (ap (W "if") e) (no_choose _ _ (ap (W "else") e) (no_choose _ _ (ap (W "end") e) (yes_choose _ _ (ap (W "endif") e) refl)))))))
  start_it f (inside (end_if false)) s u b (token e (token e2 here)) n =
      no_choose _ _ (ap (W "integer") e)
      (no_choose _ _ (ap (W "data") e) (no_choose _ _ (ap (is (sign (bytes "!$omp"))) e) (no_choose _ _ (ap (W "do") e)
      (no_choose _ _ (ap (W "if") e)
      (no_choose _ _ (ap (W "else") e)
      (yes_choose _ _ (ap (W "end") e) (yes_choose _ _ (ap (W "if") e2) (binds _ (want_it peek skip "if" (token e2 here)) refl))))))))
  start_it f (end_do true) s u b (token e here) n =
      no_choose _ _ (ap (W "integer") e)
      (no_choose _ _ (ap (W "data") e) (no_choose _ _ (ap (is (sign (bytes "!$omp"))) e) (no_choose _ _ (ap (W "do") e)
      (no_choose _ _ (ap (W "if") e)
      (no_choose _ _ (ap (W "else") e)
      (no_choose _ _ (ap (W "end") e) (no_choose _ _ (ap (W "endif") e) (yes_choose _ _ (ap (W "enddo") e) refl))))))))
  start_it f (end_do false) s u b (token e (token e2 here)) n =
      no_choose _ _ (ap (W "integer") e)
      (no_choose _ _ (ap (W "data") e) (no_choose _ _ (ap (is (sign (bytes "!$omp"))) e) (no_choose _ _ (ap (W "do") e)
      (no_choose _ _ (ap (W "if") e)
      (no_choose _ _ (ap (W "else") e)
      (yes_choose _ _ (ap (W "end") e) (no_choose _ _ (ap (W "if") e2) (binds _ (want_it peek skip "do" (token e2 here)) refl))))))))

  pub line_complete : (f : ℕ) (l : Line) (s u : S) → 3 * length (show_line l) + 4 ≤ f → Sp s (show_line l) u → peek u ≡ none
      → read_line peek skip f s ≡ done l u
  unfolding read_line
  line_complete f l s u b h n = binds _ (start_it f l s u b h n) (binds _ (cond_true _ _ (ap (λ o. eqb (kind o) 0) n) refl) refl)

-- A line as a list of tokens

pub list_spells : (xs us : List Token) → Spells first rest (xs ++ us) xs us
list_spells [] us = here
list_spells (x ∷ xs) us = token refl (list_spells xs us)

pub parse_complete : (l : Line) → parse (show_line l) ≡ some l
unfolding parse
parse_complete l =
    ap syntax_of (line_complete first rest (3 * length (show_line l) + 4) l (show_line l) [] (omega arith)
    (subst (λ ts. Spells first rest ts (show_line l) []) (append-nil (show_line l)) (list_spells (show_line l) [])) refl)
