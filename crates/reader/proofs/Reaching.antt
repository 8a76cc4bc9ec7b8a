-- How far the lines of a text were read.
use mathlib.Core.Path.{◌≡◌, refl, sym, ◌∙◌, ap, subst}
use mathlib.Core.Bool.{Bool, true, false}
use mathlib.Core.List.{List, []}
use Prim.Native.Nat.{ℕ, suc, ◌+◌, ◌-◌, ◌*◌, ◌≤◌, ◌<◌}
use native.Mathlib.Omega.{arith}
use borrow.Author.Tests.{le-leb, lt-leb, leb-true, leb-false}
use lib.Dec.{leb}
use lib.ListN.{length, get_or, take, drop, length-take, length-replicate, get_or-replicate}
use lib.IntN.{ℤ, pos}
use Rattle.rules.specs.declared.Grouping.TheVariants.{Iterations}
use Rattle.rules.specs.Cells.{listed}
use Rattle.std.specs.Prelude.{Result, Ok, Err}
use Rattle.syntax.specs.declared.Flaw.{Flaw}
use Rattle.syntax.specs.Bytes.{lines}
use Rattle.syntax.specs.Known.{State, nothing}
use Rattle.syntax.specs.Text.{Verdict, refused, good, then_judge, loaded, judge, judge_line}
use Rattle.syntax.specs.Sane.{Sane}
use Rattle.syntax.proofs.Sane.{nothing_sane}
use Rattle.code.specs.Instr.{words}
use Rattle.code.specs.Compile.{code_words, code_of, code_lines, code_opens, code_stmts, places, places_of}
use Rattle.lexer.specs.Lex.{ended}
use Rattle.names.specs.Table.{name_at, variable_of, Tabled, table_words, entry_words, variable_entry, length_word, number_word}
use Rattle.lines.specs.declared.Progress.{Progress}
use Rattle.lines.specs.Progress.{Held, held, before_do, Opened, Represents}
use Rattle.reader.specs.declared.BadLine.{BadLine}
use Rattle.reader.specs.Judged.{Judged, Lent, JudgesLine, Reads, Fresh}
use Rattle.reader.proofs.Judging.{judged_keeps}
use Rattle.reader.proofs.TextLines.{end_within, end_after, judge_last, judge_more}

pub record Reached (s : List ℕ) (n : ℕ) (H : Held) (at line : ℕ) : Type 0 where
  pub size : n ≡ length s
  pub within : at ≤ length s
  pub low : line ≤ at + 1
  pub initial : length H.initial ≡ 4096
  pub code : length H.code ≡ code_words
  pub known : State
  pub represents : Represents H known
  pub sane : Sane known
  pub stage : known.stage ≤ 7
  pub place : H.progress.place ≤ at
  pub verdict : judge 1 nothing (lines s) ≡ judge line known (lines (drop at s))

-- ---- before the first line

module _ (T : List ℕ) (I : List ℤ) (C O : List ℕ) (h : Fresh T I C) where
  zero_at : (i : ℕ) → i < table_words → get_or T i 0 ≡ 0
  zero_at i b = ap (λ (l : List ℕ). get_or l i 0) h.table ∙ get_or-replicate table_words i 0 0 b

  tabled_none : Tabled T []
  tabled_none = record {
    long = omega (arith, ap length h.table, length-replicate {A = ℕ} table_words 0);
    count = zero_at number_word (omega arith);
    few = omega arith;
    rows = λ i b. absurd (omega arith);
    distinct = λ i j a b. absurd (omega arith);
    bounded = λ i b. absurd (omega arith);
    narrow = λ i b. absurd (omega arith);
  }

  nameless : variable_of T ≡ []
  unfolding name_at listed
  nameless = ap (λ (n : ℕ). listed n (λ k. get_or T (entry_words * variable_entry + k) 0)) (zero_at (entry_words * variable_entry + length_word) (omega arith))

  code_none : (code_of nothing ≡ []) × (places_of nothing ≡ [])
  unfolding code_of code_lines code_opens code_stmts places
  code_none = (refl, refl)

  represents_nothing : 8 ≤ length O → Represents (held (before_do 0 0 0 Iterations) T I C O) nothing
  unfolding loaded words
  represents_nothing b = record {
    stage = refl;
    table = tabled_none;
    variable = nameless;
    short = omega (arith, zero_at (entry_words * variable_entry + length_word) (omega arith));
    unclaimed = λ _ i l. absurd (omega arith);
    nameless = λ _. refl;
    cells_so_far = refl;
    filled = h.initial;
    processors = refl;
    grouping = refl;
    from = refl;
    count = refl;
    few = omega arith;
    place = sym (ap length code_none.0);
    code = sym (ap words code_none.0);
    opened = subst (Opened O 0 []) (sym code_none.1) tt;
    shallow = omega arith;
    stack = b;
  }

  pub initial_long : length I ≡ 4096
  initial_long = ap length h.initial ∙ length-replicate 4096 (pos 0)

  pub reached_none : (s : List ℕ) (n : ℕ) (p : Progress) → p ≡ before_do 0 0 0 Iterations → n ≡ length s → 8 ≤ length O → Reached s n (held p T I C O) 0 1
  reached_none s n p e en b = record {
    size = en;
    within = omega arith;
    low = omega arith;
    initial = initial_long;
    code = h.code;
    known = nothing;
    represents = subst (λ (q : Progress). Represents (held q T I C O) nothing) (sym e) (represents_nothing b);
    sane = nothing_sane;
    stage = omega arith;
    place = omega (arith, ap (λ (q : Progress). q.place) e);
    verdict = refl;
  }

-- ---- a line more

module _ (s : List ℕ) (n : ℕ) (H : Held) (at line : ℕ) (h : Reached s n H at line) (short : length s ≤ 2048) (e : ℕ) (en : e ≡ ended s at) where
  abbrev this : List ℕ
  this = take (e - at) (drop at s)

  this_length : length this ≤ e - at
  this_length = omega (arith, length-take (e - at) (drop at s))

  bounds : e ≤ length s
  bounds = end_within s at e en h.within

  forward : at ≤ e
  forward = end_after s at e en h.within

  pub line_lent : Lent this line H
  line_lent = record {
    short = omega (arith, this_length, bounds);
    low = omega (arith, h.low, h.within);
    stage = omega (arith, h.represents.stage, h.stage);
    place = omega (arith, h.place, h.within);
    room = omega (arith, this_length, bounds, forward, h.place, h.within, h.code);
    initial = h.initial;
    known = (h.known, h.represents, h.sane);
  }

  module _ (last : Bool) (el : last ≡ leb n (e + 1)) (T' : List ℕ) (I' : List ℤ) (C' O' : List ℕ) where
    abbrev H' : Progress → Held
    H' q = held q T' I' C' O'

    abbrev v : Verdict
    v = judge_line line last h.known this

    -- the verdict on the text is that on this line and those after it
    whole_last : last ≡ true → judge 1 nothing (lines s) ≡ then_judge v good
    whole_last q =
        h.verdict ∙ judge_last s at e en h.within line h.known (omega (arith, leb-true n (e + 1) (sym el ∙ q), h.size))
        ∙ ap (λ (b : Bool). then_judge (judge_line line b h.known this) good) (sym q)

    whole_more : last ≡ false → judge 1 nothing (lines s) ≡ then_judge v (λ t. judge (suc line) t (lines (drop (e + 1) s)))
    whole_more q =
        h.verdict ∙ judge_more s at e en h.within line h.known (omega (arith, leb-false n (e + 1) (sym el ∙ q), h.size))
        ∙ ap (λ (b : Bool). then_judge (judge_line line b h.known this) (λ t. judge (suc line) t (lines (drop (e + 1) s)))) (sym q)

    refused_all : (k : Flaw) (m : ℕ) → v ≡ refused k m → judge 1 nothing (lines s) ≡ refused k m
    refused_all k m q = go last refl
      where
        go : (b : Bool) → last ≡ b → judge 1 nothing (lines s) ≡ refused k m
        go true eb = whole_last eb ∙ ap (λ (x : Verdict). then_judge x good) q
        go false eb = whole_more eb ∙ ap (λ (x : Verdict). then_judge x (λ t. judge (suc line) t (lines (drop (e + 1) s)))) q

    -- what is answered
    abbrev Answers : Verdict → Result Progress BadLine → Type 0
    Answers x r = Reads x r T' I' C'

    -- it is bad
    pub ends_bad : (f : Flaw) → JudgesLine this last line H H' (Err f) → Answers (judge 1 nothing (lines s)) (Err (record { flaw = f; line = line }))
    unfolding Judged Reads
    ends_bad f j = go v refl (j h.known h.represents h.sane)
      where
        go : (x : Verdict) → v ≡ x → Judged line x H' (Err f) → Answers (judge 1 nothing (lines s)) (Err (record { flaw = f; line = line }))
        go (refused k m) q d = subst (λ (y : Verdict). Answers y (Err (record { flaw = f; line = line }))) (sym (refused_all k m q))
            (λ i. record { flaw = d.0 i; line = sym d.1 i })
        go (good u) q d = absurd d

    module _ (p : Progress) (j : JudgesLine this last line H H' (Ok p)) where
      judged_so : Judged line v H' (Ok p)
      judged_so = j h.known h.represents h.sane

      -- it is good and the last
      pub ends_well : n ≤ e + 1 → Answers (judge 1 nothing (lines s)) (Ok p)
      unfolding Judged Reads
      ends_well b = go v refl judged_so
        where
          lt : last ≡ true
          lt = el ∙ le-leb n (e + 1) b

          go : (x : Verdict) → v ≡ x → Judged line x H' (Ok p) → Answers (judge 1 nothing (lines s)) (Ok p)
          go (refused k m) q d = absurd d
          go (good u) q d = subst (λ (y : Verdict). Answers y (Ok p)) (sym (whole_last lt ∙ ap (λ (y : Verdict). then_judge y good) q)) (O', d)

      -- it is good, and others come
      pub goes_further : e + 1 < n → length (H' p).initial ≡ 4096 → length (H' p).code ≡ length H.code
          → Reached s n (H' p) (e + 1) (line + 1)
      unfolding Judged
      goes_further b ei ec = go v refl judged_so
        where
          lf : last ≡ false
          lf = el ∙ lt-leb n (e + 1) b

          go : (x : Verdict) → v ≡ x → Judged line x H' (Ok p) → Reached s n (H' p) (e + 1) (line + 1)
          go (refused k m) q d = absurd d
          go (good u) q d =
              let kept = judged_keeps line last h.known this u h.sane h.stage q in
              let y : line + 1 ≡ suc line = omega arith in
              record {
                size = h.size;
                within = omega (arith, b, h.size);
                low = omega (arith, h.low, forward);
                initial = ei;
                code = ec ∙ h.code;
                known = u;
                represents = d;
                sane = kept.sane;
                stage = kept.stage;
                place = omega (arith, d.place, kept.code, h.represents.place, h.place, this_length, forward);
                verdict =
                    whole_more lf ∙ ap (λ (x : Verdict). then_judge x (λ t. judge (suc line) t (lines (drop (e + 1) s)))) q
                    ∙ ap (λ (m : ℕ). judge m u (lines (drop (e + 1) s))) (sym y);
              }
