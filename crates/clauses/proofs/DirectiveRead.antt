-- The directive: its clauses read twice.
use mathlib.Core.Path.{◌≡◌, refl, sym, ◌∙◌, ap, subst}
use mathlib.Core.Bool.{Bool, true, false, ◌&&◌}
use mathlib.Core.List.{List, []}
use Prim.Native.Nat.{ℕ, max}
use native.Mathlib.Omega.{arith}
use lib.ListN.{drop}
use Rattle.syntax.specs.Bytes.{all}
use Rattle.syntax.specs.Grammar.{Clause}
use Rattle.syntax.specs.Known.{Entry, threads_in}
use Rattle.syntax.specs.Reader.{Parsed, broken, done}
use Rattle.std.specs.Prelude.{Option, None, Some}
use Rattle.syntax.specs.declared.Rank.TheVariants.{InOrder}
use Rattle.heading.specs.Lists.{order}
use Rattle.clauses.specs.Directive.{clauses_fit, with_clauses, few, Clausal, Clauses, none_before, bare, Directing, Directive}
use Rattle.clauses.specs.declared.Directed.{Directed}
use Rattle.claiming.specs.declared.Reading.{Reading}
use Rattle.claiming.specs.declared.Reading.TheVariants.{Classes, Copies}
use Rattle.clauses.proofs.Ranks.{both_ranks}

-- clauses after what b is
pub after : (q : Reading) (T s : List ℕ) {b d : Directed} (T' : List ℕ) (o : Option Directed) → b ≡ d → Clauses q T s b T' o → Clauses q T s d T' o
after q T s T' o e h = subst (λ (x : Directed). Clauses q T s x T' o) e h

-- the first reading comes to nothing
pub directive_not : (T s : List ℕ) (at : ℕ) (T₁ : List ℕ) → Clauses Classes T s (none_before at InOrder) T₁ None → Directive T s at T₁ None
directive_not T s at T₁ h t m f k = h (bare t) m f k

-- both readings, of the same clauses
module _ (T s : List ℕ) (at : ℕ) (T₁ : List ℕ) (r₁ : Directed) (h₁ : Clauses Classes T s (none_before at InOrder) T₁ (Some r₁)) (T₂ : List ℕ) where
  both_clausal : (r₂ : Directed) (t : List Entry) (cs : List Clause) → Clausal Classes (bare t) (none_before at InOrder) T₁ r₁ cs
      → Clausal Copies (with_clauses Classes (bare t) cs) (none_before at r₁.rank) T₂ r₂ cs → Directing t T₂ r₂ cs
  both_clausal r₂ t cs p x = record {
    rank_is =
        x.rank_is
        ∙ ap (λ (n : ℕ). max n (order (clauses_fit Copies (with_clauses Classes (bare t) cs) cs) (all few (threads_in cs)))) p.rank_is
        ∙ both_ranks 0 (clauses_fit Classes (bare t) cs) (all few (threads_in cs)) (clauses_fit Copies (with_clauses Classes (bare t) cs) cs) (all few (threads_in cs))
        ∙ (λ i. max 0 (order (clauses_fit Classes (bare t) cs && clauses_fit Copies (with_clauses Classes (bare t) cs) cs) (twice (all few (threads_in cs)) i)))
        ∙ omega arith;
    threads_are = x.threads_are;
    processors_are = x.processors_are;
    statics_are = x.statics_are;
    table = x.marked.table;
  }
    where
      twice : (b : Bool) → b && b ≡ b
      twice true = refl
      twice false = refl

  pub directive_read : (o : Option Directed) → Clauses Copies T₁ s (none_before at r₁.rank) T₂ o → Directive T s at T₂ o
  directive_read None h₂ t m f k = let g = h₁ (bare t) m f k in h₂ (with_clauses Classes (bare t) g.what) g.holds.marked f k
  directive_read (Some r₂) h₂ t m f k =
      let g = h₁ (bare t) m f k in
      let h = h₂ (with_clauses Classes (bare t) g.what) g.holds.marked f k in
      let e : h.what ≡ g.what = ap (λ (p : Parsed (List ℕ) (List Clause)). elim p [ broken ↦ [] | done xs v ↦ xs ]) (sym h.reads ∙ g.reads) in record {
        what = g.what;
        reads = h.reads ∙ ap (λ (x : List Clause). done x (drop r₂.next s)) e;
        holds = both_clausal r₂ t g.what g.holds
            (subst (Clausal Copies (with_clauses Classes (bare t) g.what) (none_before at r₁.rank) T₂ r₂) e h.holds);
        from = h.from;
        within = h.within;
      }
