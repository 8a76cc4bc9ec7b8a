-- The loop's bounds.
use mathlib.Core.Path.{◌≡◌, refl, sym, ◌∙◌, ap}
use mathlib.Core.Bool.{Bool, true, false, not, ◌&&◌}
use mathlib.Core.List.{List}
use Prim.Native.Nat.{ℕ, zero, suc, ◌+◌, ◌-◌, ◌≤◌, max}
use native.Mathlib.Omega.{arith}
use borrow.Author.Tests.{leb-true}
use lib.Dec.{leb}
use lib.ListN.{length}
use lib.IntN.{ℤ, pos, negsuc}
use Rattle.syntax.specs.Bytes.{bytes}
use Rattle.syntax.specs.Grammar.{number, Lead, bare, plus, minus}
use Rattle.syntax.specs.Known.{Entry, known, signed}
use Rattle.syntax.specs.Reader.{done, Reader, next, expects, read_name, read_lead, read_digits, peek_in, skip_in}
use Rattle.lexer.specs.declared.Word.{Word}
use Rattle.lexer.specs.declared.Leading.{Leading}
use Rattle.lexer.specs.declared.Sign.{Sign}
use Rattle.lexer.specs.declared.Number.{Number}
use Rattle.lexer.specs.Places.{Any, passes, Spells, Numbers, Leads, lead_of, NotRead, ReadTo}
use Rattle.lexer.proofs.InTurn.{not_then, then_not, then_to, to_yield, not_past, past_not, past_to}
use Rattle.std.specs.Prelude.{is_some}
use Rattle.std.specs.Prelude.{Option, None, Some, MatchOption}
use Rattle.syntax.specs.declared.Rank.{Rank}
use Rattle.syntax.specs.Ranks.{level}
use Rattle.bounds.specs.declared.Bounds.{Bounds}
use Rattle.int32.specs.Integers.{value}
use Rattle.syntax.specs.Meaning.{led}
use Rattle.syntax.proofs.Spelling.{both_true}
use Rattle.syntax.proofs.LoopValues.{raised, iterations_raised, signed_size}
use Rattle.lexer.specs.Lex.{part}
use Rattle.names.specs.declared.Named.{Named}
use Rattle.names.specs.Table.{Tabled, Unknown, Knows, Stands, Put}
use Rattle.names.proofs.Rows.{named_variable, variable_short}
use Rattle.heading.specs.Lists.{order}
use Rattle.bounds.specs.DoLine.{Ends, read_ends, Found, raise, from_of, count_of, Looping}
use Rattle.heading.proofs.Literals.{leb_least, signed_value}

-- what is read after a part
abbrev to_last : List ℕ → Lead → List ℕ → Lead → Reader (List ℕ) Ends
to_last w x d y u = next (read_digits peek_in skip_in u) (λ e. done (record { name = w; lead = x; first = d; last_lead = y; last = e }))

abbrev to_tail : List ℕ → Lead → List ℕ → Reader (List ℕ) Ends
to_tail w x d u = next (read_lead peek_in skip_in u) (to_last w x d)

abbrev to_comma : List ℕ → Lead → List ℕ → Reader (List ℕ) Ends
to_comma w x d u = next (expects peek_in skip_in "," u) (λ _. to_tail w x d)

abbrev to_first : List ℕ → Lead → Reader (List ℕ) Ends
to_first w x u = next (read_digits peek_in skip_in u) (to_comma w x)

abbrev to_lead : List ℕ → Reader (List ℕ) Ends
to_lead w u = next (read_lead peek_in skip_in u) (to_first w)

abbrev to_equals : List ℕ → Reader (List ℕ) Ends
to_equals w u = next (expects peek_in skip_in "=" u) (λ _. to_lead w)

module _ {s : List ℕ} {from : ℕ} (v : Word) (gv : ReadTo (Spells s v) s from (read_name peek_in skip_in) v.next) where
  pub no_equals : NotRead s v.next (passes (bytes "=")) → NotRead s from read_ends
  no_equals g = then_not to_equals gv (λ w _. not_past "=" (to_lead w) refl g)

  module _ {a : ℕ} (ga : ReadTo Any s v.next (passes (bytes "=")) a) (l : Sign) (gl : ReadTo (Leads l) s a (read_lead peek_in skip_in) l.next) where
    from_first : ((w : List ℕ) (x : Lead) → NotRead s l.next (to_first w x)) → NotRead s from read_ends
    from_first f = then_not to_equals gv (λ w _. past_not "=" (to_lead w) ga refl (then_not (to_first w) gl (λ x _. f w x)))

    pub no_first : NotRead s l.next (read_digits peek_in skip_in) → NotRead s from read_ends
    no_first g = from_first (λ w x. not_then (to_comma w x) g)

    module _ (m : Number) (gm : ReadTo (Numbers m) s l.next (read_digits peek_in skip_in) m.next) where
      pub no_comma : NotRead s m.next (passes (bytes ",")) → NotRead s from read_ends
      no_comma g = from_first (λ w x. then_not (to_comma w x) gm (λ d _. not_past "," (to_tail w x d) refl g))

      module _ {b : ℕ} (gb : ReadTo Any s m.next (passes (bytes ",")) b) (k : Sign) (gk : ReadTo (Leads k) s b (read_lead peek_in skip_in) k.next) where
        pub no_last : NotRead s k.next (read_digits peek_in skip_in) → NotRead s from read_ends
        no_last g = from_first (λ w x. then_not (to_comma w x) gm (λ d _. past_not "," (to_tail w x d) gb refl
            (then_not (to_last w x d) gk (λ y _. not_then (λ e. done (record { name = w; lead = x; first = d; last_lead = y; last = e })) g))))

        pub bounds_read : (n : Number) → ReadTo (Numbers n) s k.next (read_digits peek_in skip_in) n.next
            → ReadTo (Found s (record { next = n.next; start = v.start; stop = v.next; lead = l.sign; first = m.number; tail = k.sign; last = n.number }))
            s from read_ends n.next
        bounds_read n gn = then_to to_equals gv (λ w pw. past_to "=" (to_lead w) ga refl (then_to (to_first w) gl (λ x px.
            then_to (to_comma w x) gm (λ d pd. past_to "," (to_tail w x d) gb refl (then_to (to_last w x d) gk (λ y py.
            to_yield (λ e. record { name = w; lead = x; first = d; last_lead = y; last = e }) gn (λ e pe.
            record { name = pw.bytes; order = pw.order; inside = gv.within; short = pw.short; lead = px; size = pd; last_lead = py; last_size = pe })))))))

-- ---- numbers

pub raise_down : (n : ℕ) → raise (signed minus n) ≡ 2147483648 - n
raise_down zero = omega arith
raise_down (suc n) = refl

raise_most : (l : Lead) (n : ℕ) → n ≤ 2147483648 → raise (signed l n) ≤ 4294967296
raise_most bare n h = omega arith
raise_most plus n h = omega arith
raise_most minus zero h = omega arith
raise_most minus (suc n) h = omega arith

pub raised_most : (g : Leading) (n : ℕ) → n ≤ 2147483648 → raise (signed (lead_of g) n) ≤ 4294967296
raised_most g n h = raise_most (lead_of g) n h

raised_is : (z : ℤ) → raised 2147483648 z ≡ raise z
raised_is (pos n) = refl
raised_is (negsuc n) = refl

-- ---- the line

pub turned : (a b : Bool) → a ≡ not b → b ≡ not a
turned a true h = sym (ap not h)
turned a false h = sym (ap not h)

module _ (t : List Entry) (T s T' : List ℕ) (tab : Tabled T t) (b : Bounds) (e : Ends) (p : Found s b e) (o : Option Named)
    (kn : MatchOption o (Unknown t (part s b.start b.stop)) (λ n. Knows t (part s b.start b.stop) n × Stands T t (part s b.start b.stop) n))
    (first last : ℕ) (ef : first ≡ raise (signed (lead_of b.lead) b.first)) (el : last ≡ raise (signed (lead_of b.tail) b.last)) (count : ℕ)
    (ec : count ≡ last + 1 - first)
    (small₁ : Bool) (es : small₁ ≡ leb b.first 2147483647 && leb b.last 2147483647) (rank : Rank) (er : level rank ≡ max 0 (order (not (is_some o)) (small₁ && leb count 65535)))
    (from : ℤ) (eo : from ≡ led (lead_of b.lead) (value b.first)) (put : Put T 16 (part s b.start b.stop) T') where
  numbers : Bool
  numbers = leb (number e.first) 2147483647 && leb (number e.last) 2147483647

  numbers_are : small₁ ≡ numbers
  unfolding numbers
  numbers_are =
      es ∙ (λ i. leb (p.size i) 2147483647 && leb (p.last_size i) 2147483647)
      ∙ (λ i. leb_least (number e.first) i && leb_least (number e.last) i)

  known_is : is_some o ≡ known e.name t
  known_is = go o kn ∙ ap (λ (w : List ℕ). known w t) (sym p.name)
    where
      go : (o : Option Named) → MatchOption o (Unknown t (part s b.start b.stop)) (λ n. Knows t (part s b.start b.stop) n × Stands T t (part s b.start b.stop) n)
          → is_some o ≡ known (part s b.start b.stop) t
      go None u = sym u.known
      go (Some n) (k, _) = sym k.known

  -- within the limits, what the code works out is what is meant
  module _ (h : numbers ≡ true) where
    sizes : (number e.first ≤ 2147483647) × (number e.last ≤ 2147483647)
    unfolding numbers
    sizes =
        let (x, y) = both_true (leb (number e.first) 2147483647) _ h in
        (leb-true (number e.first) 2147483647 x, leb-true (number e.last) 2147483647 y)

    first_is : b.first ≡ number e.first
    first_is = p.size ∙ omega (arith, sizes.0)

    last_is : b.last ≡ number e.last
    last_is = p.last_size ∙ omega (arith, sizes.1)

    count_is : count ≡ count_of e
    count_is =
        let m = from_of e in
        let n = signed e.last_lead (number e.last) in
        ec ∙ (λ i. (el ∙ (λ j. raise (signed (p.last_lead j) (last_is j)))) i + 1 - (ef ∙ (λ j. raise (signed (p.lead j) (first_is j)))) i)
        ∙ sym (iterations_raised 2147483648 m n (omega (arith, signed_size e.lead (number e.first), sizes.0))
        (omega (arith, signed_size e.last_lead (number e.last), sizes.1))
        ∙ (λ i. raised_is n i + 1 - raised_is m i))

    from_is : from ≡ from_of e
    from_is = eo ∙ (λ i. led (p.lead i) (value (first_is i))) ∙ signed_value e.lead (number e.first) sizes.0

  rank_is : level rank ≡ order (not (known e.name t)) (numbers && leb (count_of e) 65535)
  rank_is = er ∙ (λ i. max 0 (order (not (known_is i)) (numbers_are i && leb count 65535))) ∙ go numbers refl
    where
      go : (x : Bool) → numbers ≡ x
          → max 0 (order (not (known e.name t)) (x && leb count 65535)) ≡ order (not (known e.name t)) (x && leb (count_of e) 65535)
      go true h = ap (λ (n : ℕ). max 0 (order (not (known e.name t)) (leb n 65535))) (count_is h) ∙ omega arith
      go false h = omega arith

  good : level rank ≡ 0 → (numbers ≡ true) × (leb (count_of e) 65535 ≡ true)
  good z = go (not (known e.name t)) numbers (leb (count_of e) 65535) (sym rank_is ∙ z)
    where
      go : (a b c : Bool) → order a (b && c) ≡ 0 → (b ≡ true) × (c ≡ true)
      go true true true h = (refl, refl)
      go true true false h = absurd (omega (arith, h))
      go true false c h = absurd (omega (arith, h))
      go false b c h = absurd (omega (arith, h))

  pub looping : (next : ℕ) → Looping t T' (record { next = next; rank = rank; from = from; count = count }) e
  unfolding numbers
  looping next = record {
    rank = rank_is;
    from = λ z. from_is (good z).0;
    count = λ z. count_is (good z).0;
    few = λ z. omega (arith, count_is (good z).0, leb-true (count_of e) 65535 (good z).1);
    table = named_variable T (part s b.start b.stop) T' put t tab;
    variable = put.name tab.long ∙ sym p.name;
    short = variable_short T (part s b.start b.stop) T' put (omega (arith, p.short, ap length p.name)) tab.long;
  }
