-- A line of an accepted text, printed as its kind tells, is the line of the printed form.
use mathlib.Core.Path.{◌≡◌, refl, sym, ◌∙◌, ap, subst}
use mathlib.Core.Bool.{Bool, true, false, cond}
use mathlib.Core.List.{List, []}
use mathlib.Core.Option.{some}
use Prim.Native.Nat.{ℕ, ◌+◌, ◌*◌}
use native.Mathlib.Omega.{arith}
use lib.ListN.{length}
use Rattle.syntax.specs.Bytes.{Token, tokens, skipped_line}
use Rattle.syntax.specs.Grammar.{otherwise, Line, declare, direct, loop, inside, assign, when, show_line}
use Rattle.syntax.specs.Known.{Open}
use Rattle.syntax.specs.Conditions.{fits}
use Rattle.syntax.specs.Reader.{Parsed, broken, done, parse, read_start, peek_in, skip_in}
use Rattle.syntax.proofs.Theorem.{line_exactly}
use Rattle.lines.specs.Progress.{whole}
use Rattle.lines.proofs.Yields.{Yields, yields_declare, yields_give, yields_direct, yields_loop, yields_assign, yields_when}
use Rattle.kinds.specs.declared.Kind.{Kind}
use Rattle.kinds.specs.declared.Kind.TheVariants.{Broken, Integer, Data, Opening, Loop, Assignment, If, Else, EndIf, EndDo, Closing}
use Rattle.kinds.specs.Kinds.{read_by, Kinds}
use Rattle.reader.proofs.Parses.{line_of, parse_bytes, yields_closing, line_yields, line_by}
use Rattle.printed.specs.Form.{closing, formed_line, ended}
use Rattle.printed.proofs.FormedLaws.{rewritten, formed_own, formed_end_if, formed_end_do}
use Rattle.writing.specs.Written.{Writes, Fits}
use Rattle.layout.specs.Copied.{line_bytes}
use Rattle.layout.proofs.Data.{own_line, data_line}
use Rattle.forming.specs.declared.Shape.{Shape}
use Rattle.forming.specs.Lines.{shape_by, shaped, Good, line_form, GoodLine, line_or_none}

-- a line of this kind is printed so
abbrev Prints : Kind → Line → Type 0
Prints k l = (os : List Open) → fits os l ≡ true → shaped (shape_by k) (show_line l) ≡ line_form (some l)

own : (l : Line) → rewritten l ≡ false → closing l ≡ false → line_bytes false (show_line l) ≡ line_form (some l)
own l r c = own_line (show_line l) ∙ ap ended (sym (formed_own l r)) ∙ ap (λ (b : Bool). cond b [] (ended (formed_line l))) (sym c)

prints : (k : Kind) (f : ℕ) (s : List ℕ) → Yields (Prints k) (read_by k f s)
unfolding read_by shaped
prints Broken f s = tt
prints Integer f s = yields_declare (Prints Integer) (λ d ds os h. own (declare d ds) refl refl) f s
prints Data f s = yields_give (Prints Data) (λ x i is os h. data_line x i is h) f s
prints Opening f s = yields_direct (Prints Opening) (λ cs os h. own (direct cs) refl refl) f s
prints Loop f s = yields_loop (Prints Loop) (λ v l m k n os h. own (loop v l m k n) refl refl) f s
prints Assignment f s = yields_assign (Prints Assignment) (λ r e os h. own (inside (assign r e)) refl refl) f s
prints If f s = yields_when (Prints If) (λ a o b os h. own (inside (when a o b)) refl refl) f s
prints (Else n) f s = λ os h. own (inside otherwise) refl refl
prints (EndIf n j) f s = λ os h. ap ended (sym (formed_end_if j))
prints (EndDo n j) f s = λ os h. ap ended (sym (formed_end_do j))
prints Closing f s = yields_closing (Prints Closing) (λ os h. refl) f s

good_prints : (s : List ℕ) (k : Kind) → Kinds (λ f. read_start peek_in skip_in f s) s k → (g : Good s)
    → shaped (shape_by k) (tokens s) ≡ line_form (parse (tokens s))
good_prints s k h g =
    go (whole (read_by k f) s) (line_yields (Prints k) k f s (prints k f s)) (sym g.follows ∙ parse_bytes s f (omega arith) ∙ ap line_of (line_by k s h f))
  where
    f : ℕ
    f = 3 * length s + 4

    go : (q : Parsed (List ℕ) Line) → Yields (Prints k) q → some g.line ≡ line_of q → shaped (shape_by k) (tokens s) ≡ line_form (parse (tokens s))
    go broken y e = let z : ◌≡◌ {A = ℕ} 0 1 = cc in absurd (omega arith)
    go (done l u) y e =
        let i : g.line ≡ l = cc in
        let t = (line_exactly (tokens s) l).0 (g.follows ∙ ap some i) in
        ap (shaped (shape_by k)) t ∙ y g.opens (ap (fits g.opens) (sym i) ∙ g.counted) ∙ ap line_form (ap some (sym i) ∙ sym g.follows)

-- ---- by the shape that the code found

pub shape_room : (to : ℕ) (ts : List Token) {x y : Shape} → x ≡ y → Fits to (shaped x ts) → Fits to (shaped y ts)
shape_room to ts e = subst (λ (x : Shape). Fits to (shaped x ts)) e

pub shape_writes : {b a : List ℕ} {to r : ℕ} (ts : List Token) {x y : Shape} → x ≡ y → Writes b to (shaped y ts) a r → Writes b to (shaped x ts) a r
shape_writes {b} {a} {to} {r} ts e = subst (λ (x : Shape). Writes b to (shaped x ts) a r) (sym e)

-- ---- skipped or not

pub skipped_none : (s : List ℕ) → skipped_line s ≡ true → [] ≡ line_or_none s
unfolding line_or_none
skipped_none s e = sym (ap (λ (b : Bool). cond b [] (line_form (parse (tokens s)))) e)

pub spoken_prints : (s : List ℕ) (k : Kind) (x : Shape) → Kinds (λ f. read_start peek_in skip_in f s) s k → x ≡ shape_by k → GoodLine s → skipped_line s ≡ false
    → shaped x (tokens s) ≡ line_or_none s
unfolding line_or_none
spoken_prints s k x h e g n =
    ap (λ (y : Shape). shaped y (tokens s)) e ∙ good_prints s k h (g n) ∙ sym (ap (λ (b : Bool). cond b [] (line_form (parse (tokens s)))) n)
