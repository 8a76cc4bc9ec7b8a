-- How a line is read, by the bytes of its first tokens.
use mathlib.Core.Path.{◌≡◌, refl, sym, ◌∙◌, ap}
use mathlib.Core.Bool.{Bool, true, false, cond}
use mathlib.Core.List.{List}
use Prim.Native.Nat.{ℕ, ◌≤◌}
use Prim.Native.String.{String}
use lib.ListN.{length, drop}
use Rattle.syntax.specs.Bytes.{choose, same, bytes}
use Rattle.syntax.specs.Grammar.{otherwise, end_if, inside, end_do}
use Rattle.syntax.specs.Reader.{broken, done, next, sees, says, wants, read_declare, read_give, read_directive, read_opening, read_closing, read_loop, read_assign, read_when, read_end, read_start, peek_in, skip_in}
use Rattle.lexer.specs.declared.Tok.{Tok}
use Rattle.lexer.specs.Lex.{part, Lexed}
use Rattle.lexer.proofs.Said.{signed, lettered, sign_text, word_text}
use Rattle.kinds.specs.declared.Kind.{Kind}
use Rattle.kinds.specs.declared.Kind.TheVariants.{Broken, Integer, Data, Opening, Loop, Assignment, If, Else, EndIf, EndDo, Closing}
use Rattle.kinds.specs.Kinds.{read_by, Inside, Kinds}

-- ---- the token at a place

module _ (s : List ℕ) (at : ℕ) (t : Tok) (l : Lexed s at t) (w : String) (b : Bool) (e : b ≡ same (bytes w) (part s t.start t.stop)) where
  pub said : lettered (bytes w) ≡ true → says peek_in skip_in w (drop at s) ≡ b
  said h = word_text (bytes w) h (drop at s) ∙ ap (same (bytes w)) l.bytes ∙ sym e

  pub seen : signed (bytes w) ≡ true → sees peek_in skip_in w (drop at s) ≡ b
  seen h = sign_text (bytes w) h (drop at s) ∙ ap (same (bytes w)) l.bytes ∙ sym e

-- ---- directives, and what `end` ends

pub directive_by : (f : ℕ) (s u : List ℕ) (b : Bool) → skip_in s ≡ u → says peek_in skip_in "end" u ≡ b
    → read_directive peek_in skip_in f s ≡ choose b (λ _. read_closing peek_in skip_in s) (λ _. read_opening peek_in skip_in f s)
unfolding read_directive
directive_by f s u b e h = ap (λ (c : Bool). choose c (λ _. read_closing peek_in skip_in s) (λ _. read_opening peek_in skip_in f s))
    (ap (says peek_in skip_in "end") e ∙ h)

-- what `end` ends: `if` (a), `do` (b) or nothing
pub end_by : (f : ℕ) (s u : List ℕ) (a b : Bool) → skip_in s ≡ u → says peek_in skip_in "if" u ≡ a → says peek_in skip_in "do" u ≡ b
    → read_end peek_in skip_in f s
    ≡ choose a (λ _. done (inside (end_if false)) (skip_in u)) (λ _. choose b (λ _. done (end_do false) (skip_in u)) (λ _. broken))
unfolding read_end
end_by f s u a b e p q =
    (λ i. choose (says peek_in skip_in "if" (e i)) (λ _. next (wants peek_in skip_in "if" (e i)) (λ _. done (inside (end_if false))))
    (λ _. next (wants peek_in skip_in "do" (e i)) (λ _. done (end_do false))))
    ∙ (λ i. choose (p i) (λ _. next (cond (p i) (done (tt {0}) (skip_in u)) broken) (λ _. done (inside (end_if false))))
    (λ _. next (cond (q i) (done (tt {0}) (skip_in u)) broken) (λ _. done (end_do false))))
    ∙ go a b
  where
    go : (a b : Bool)
        → choose a (λ _. next (cond a (done (tt {0}) (skip_in u)) broken) (λ _. done (inside (end_if false))))
        (λ _. next (cond b (done (tt {0}) (skip_in u)) broken) (λ _. done (end_do false)))
        ≡ choose a (λ _. done (inside (end_if false)) (skip_in u)) (λ _. choose b (λ _. done (end_do false) (skip_in u)) (λ _. broken))
    go true b = refl
    go false true = refl
    go false false = refl

-- ---- the first token

pub start_by : (f : ℕ) (s : List ℕ) (a b c d e g h i j : Bool)
    → says peek_in skip_in "integer" s ≡ a → says peek_in skip_in "data" s ≡ b → sees peek_in skip_in "!$omp" s ≡ c → says peek_in skip_in "do" s ≡ d
    → says peek_in skip_in "if" s ≡ e
    → says peek_in skip_in "else" s ≡ g → says peek_in skip_in "end" s ≡ h → says peek_in skip_in "endif" s ≡ i → says peek_in skip_in "enddo" s ≡ j
    → read_start peek_in skip_in f s ≡
    choose a (λ _. read_declare peek_in skip_in f s) (λ _.
    choose b (λ _. read_give peek_in skip_in f s) (λ _.
    choose c (λ _. read_directive peek_in skip_in f s) (λ _.
    choose d (λ _. read_loop peek_in skip_in f s) (λ _.
    choose e (λ _. read_when peek_in skip_in f s) (λ _.
    choose g (λ _. done (inside otherwise) (skip_in s)) (λ _.
    choose h (λ _. read_end peek_in skip_in f s) (λ _.
    choose i (λ _. done (inside (end_if true)) (skip_in s)) (λ _.
    choose j (λ _. done (end_do true) (skip_in s)) (λ _.
    read_assign peek_in skip_in f s)))))))))
unfolding read_start
start_by f s a b c d e g h i j ea eb ec ed ee eg eh ei ej = λ k.
    choose (ea k) (λ _. read_declare peek_in skip_in f s) (λ _.
    choose (eb k) (λ _. read_give peek_in skip_in f s) (λ _.
    choose (ec k) (λ _. read_directive peek_in skip_in f s) (λ _.
    choose (ed k) (λ _. read_loop peek_in skip_in f s) (λ _.
    choose (ee k) (λ _. read_when peek_in skip_in f s) (λ _.
    choose (eg k) (λ _. done (inside otherwise) (skip_in s)) (λ _.
    choose (eh k) (λ _. read_end peek_in skip_in f s) (λ _.
    choose (ei k) (λ _. done (inside (end_if true)) (skip_in s)) (λ _.
    choose (ej k) (λ _. done (end_do true) (skip_in s)) (λ _.
    read_assign peek_in skip_in f s)))))))))

-- ---- the kinds

abbrev Starts : List ℕ → Kind → Type 0
Starts s k = Kinds (λ f. read_start peek_in skip_in f s) s k

pub starts_integer : (s : List ℕ) → says peek_in skip_in "integer" s ≡ true → Starts s Integer
unfolding read_by Inside
starts_integer s ea = record { reads = λ f. start_by f s true _ _ _ _ _ _ _ _ ea refl refl refl refl refl refl refl refl; inside = tt }

pub starts_data : (s : List ℕ) → says peek_in skip_in "integer" s ≡ false → says peek_in skip_in "data" s ≡ true → Starts s Data
unfolding read_by Inside
starts_data s ea eb = record { reads = λ f. start_by f s false true _ _ _ _ _ _ _ ea eb refl refl refl refl refl refl refl; inside = tt }

pub starts_directive : (s : List ℕ) (k : Kind) → Kinds (λ f. read_directive peek_in skip_in f s) s k → says peek_in skip_in "integer" s ≡ false
    → says peek_in skip_in "data" s ≡ false → sees peek_in skip_in "!$omp" s ≡ true → Starts s k
starts_directive s k h ea eb ec = record {
  reads = λ f. start_by f s false false true _ _ _ _ _ _ ea eb ec refl refl refl refl refl refl ∙ h.reads f;
  inside = h.inside;
}

pub starts_do : (s : List ℕ) → says peek_in skip_in "integer" s ≡ false → says peek_in skip_in "data" s ≡ false
    → sees peek_in skip_in "!$omp" s ≡ false → says peek_in skip_in "do" s ≡ true → Starts s Loop
unfolding read_by Inside
starts_do s ea eb ec ed = record { reads = λ f. start_by f s false false false true _ _ _ _ _ ea eb ec ed refl refl refl refl refl; inside = tt }

pub starts_if : (s : List ℕ) → says peek_in skip_in "integer" s ≡ false → says peek_in skip_in "data" s ≡ false
    → sees peek_in skip_in "!$omp" s ≡ false → says peek_in skip_in "do" s ≡ false → says peek_in skip_in "if" s ≡ true → Starts s If
unfolding read_by Inside
starts_if s ea eb ec ed ee = record { reads = λ f. start_by f s false false false false true _ _ _ _ ea eb ec ed ee refl refl refl refl; inside = tt }

pub starts_else : (s : List ℕ) (n : ℕ) → skip_in s ≡ drop n s → n ≤ length s → says peek_in skip_in "integer" s ≡ false
    → says peek_in skip_in "data" s ≡ false → sees peek_in skip_in "!$omp" s ≡ false → says peek_in skip_in "do" s ≡ false
    → says peek_in skip_in "if" s ≡ false → says peek_in skip_in "else" s ≡ true → Starts s (Else n)
unfolding read_by Inside
starts_else s n e b ea eb ec ed ee eg = record {
  reads = λ f. start_by f s false false false false false true _ _ _ ea eb ec ed ee eg refl refl refl ∙ ap (done (inside otherwise)) e;
  inside = b;
}

pub starts_end : (s : List ℕ) (k : Kind) → Kinds (λ f. read_end peek_in skip_in f s) s k → says peek_in skip_in "integer" s ≡ false
    → says peek_in skip_in "data" s ≡ false → sees peek_in skip_in "!$omp" s ≡ false → says peek_in skip_in "do" s ≡ false
    → says peek_in skip_in "if" s ≡ false → says peek_in skip_in "else" s ≡ false → says peek_in skip_in "end" s ≡ true → Starts s k
starts_end s k h ea eb ec ed ee eg eh = record {
  reads = λ f. start_by f s false false false false false false true _ _ ea eb ec ed ee eg eh refl refl ∙ h.reads f;
  inside = h.inside;
}

pub starts_endif : (s : List ℕ) (n : ℕ) → skip_in s ≡ drop n s → n ≤ length s → says peek_in skip_in "integer" s ≡ false
    → says peek_in skip_in "data" s ≡ false → sees peek_in skip_in "!$omp" s ≡ false → says peek_in skip_in "do" s ≡ false
    → says peek_in skip_in "if" s ≡ false → says peek_in skip_in "else" s ≡ false → says peek_in skip_in "end" s ≡ false
    → says peek_in skip_in "endif" s ≡ true → Starts s (EndIf n true)
unfolding read_by Inside
starts_endif s n e b ea eb ec ed ee eg eh ei = record {
  reads = λ f. start_by f s false false false false false false false true _ ea eb ec ed ee eg eh ei refl ∙ ap (done (inside (end_if true))) e;
  inside = b;
}

pub starts_enddo : (s : List ℕ) (n : ℕ) → skip_in s ≡ drop n s → n ≤ length s → says peek_in skip_in "integer" s ≡ false
    → says peek_in skip_in "data" s ≡ false → sees peek_in skip_in "!$omp" s ≡ false → says peek_in skip_in "do" s ≡ false
    → says peek_in skip_in "if" s ≡ false → says peek_in skip_in "else" s ≡ false → says peek_in skip_in "end" s ≡ false
    → says peek_in skip_in "endif" s ≡ false → says peek_in skip_in "enddo" s ≡ true → Starts s (EndDo n true)
unfolding read_by Inside
starts_enddo s n e b ea eb ec ed ee eg eh ei ej = record {
  reads = λ f. start_by f s false false false false false false false false true ea eb ec ed ee eg eh ei ej ∙ ap (done (end_do true)) e;
  inside = b;
}

pub starts_other : (s : List ℕ) → says peek_in skip_in "integer" s ≡ false → says peek_in skip_in "data" s ≡ false
    → sees peek_in skip_in "!$omp" s ≡ false → says peek_in skip_in "do" s ≡ false → says peek_in skip_in "if" s ≡ false
    → says peek_in skip_in "else" s ≡ false → says peek_in skip_in "end" s ≡ false → says peek_in skip_in "endif" s ≡ false
    → says peek_in skip_in "enddo" s ≡ false → Starts s Assignment
unfolding read_by Inside
starts_other s ea eb ec ed ee eg eh ei ej = record {
  reads = λ f. start_by f s false false false false false false false false false ea eb ec ed ee eg eh ei ej;
  inside = tt;
}

pub directive_closing : (s u : List ℕ) → skip_in s ≡ u → says peek_in skip_in "end" u ≡ true → Kinds (λ f. read_directive peek_in skip_in f s) s Closing
unfolding read_by Inside
directive_closing s u e h = record { reads = λ f. directive_by f s u true e h; inside = tt }

pub directive_opening : (s u : List ℕ) → skip_in s ≡ u → says peek_in skip_in "end" u ≡ false → Kinds (λ f. read_directive peek_in skip_in f s) s Opening
unfolding read_by Inside
directive_opening s u e h = record { reads = λ f. directive_by f s u false e h; inside = tt }

pub end_of_if : (s u : List ℕ) (n : ℕ) → skip_in s ≡ u → skip_in u ≡ drop n s → n ≤ length s → says peek_in skip_in "if" u ≡ true
    → Kinds (λ f. read_end peek_in skip_in f s) s (EndIf n false)
unfolding read_by Inside
end_of_if s u n e q b h = record { reads = λ f. end_by f s u true _ e h refl ∙ ap (done (inside (end_if false))) q; inside = b }

pub end_of_do : (s u : List ℕ) (n : ℕ) → skip_in s ≡ u → skip_in u ≡ drop n s → n ≤ length s → says peek_in skip_in "if" u ≡ false
    → says peek_in skip_in "do" u ≡ true → Kinds (λ f. read_end peek_in skip_in f s) s (EndDo n false)
unfolding read_by Inside
end_of_do s u n e q b h k = record { reads = λ f. end_by f s u false true e h k ∙ ap (done (end_do false)) q; inside = b }

pub end_of_none : (s u : List ℕ) → skip_in s ≡ u → says peek_in skip_in "if" u ≡ false → says peek_in skip_in "do" u ≡ false
    → Kinds (λ f. read_end peek_in skip_in f s) s Broken
unfolding read_by Inside
end_of_none s u e h k = record { reads = λ f. end_by f s u false false e h k; inside = tt }
