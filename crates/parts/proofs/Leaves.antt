-- Factors of one token: a literal, and a name without a subscript.
use mathlib.Core.Path.{◌≡◌, refl, sym, ◌∙◌, ap, subst}
use mathlib.Core.Bool.{Bool, cond}
use mathlib.Core.List.{List, [], ◌∷◌}
use Prim.Native.Nat.{ℕ, suc, ◌+◌, min, max}
use native.Mathlib.Decide.{dec_le}
use native.Mathlib.Omega.{arith}
use borrow.Author.Tests.{le-leb, lt-leb}
use lib.Dec.{leb}
use lib.ListN.{drop}
use Rattle.syntax.specs.Grammar.{number}
use Rattle.syntax.specs.Known.{Entry}
use Rattle.syntax.specs.Conditions.{refers}
use Rattle.syntax.specs.Reader.{done, skip_in}
use Rattle.code.specs.Instr.{Instr, push, words}
use Rattle.lexer.specs.declared.Tok.{Tok}
use Rattle.lexer.specs.Lex.{kind_number, part, Lexed}
use Rattle.names.specs.Table.{variable_of, Tabled}
use Rattle.std.specs.Prelude.{Some}
use Rattle.syntax.specs.declared.Rank.{Rank}
use Rattle.syntax.specs.Ranks.{level}
use Rattle.parts.specs.Answer.{rank_of, Reads, Lies}
use Rattle.parts.specs.Parts.{text_at, Emits, Ranked, reads_of, Fetches, pushes, literal_rank, Pushes, Loads}
use Rattle.parts.specs.declared.Fetch.{Fetch}
use Rattle.parts.specs.declared.Fetch.TheVariants.{Cell}
use Rattle.parts.specs.declared.Got.{Got}
use Rattle.parts.proofs.Laws.{Since, since_none, since_rank, since_emits, reads_done}

-- the words of a read are those of its instruction
pub fetches_emits : (T s : List ℕ) (at line : ℕ) (b : Fetch) (g : Got) (m a : List ℕ) (r : Got) → Fetches T s at line b g m a r → (t : List Entry) → Tabled T t
    → Emits 1 (words (reads_of t (variable_of T) line (text_at s at) b ∷ [])) g m a r
unfolding words
fetches_emits T s at line b g m a r h t d = subst (λ (ws : List ℕ). Emits 1 ws g m a r) (λ i. (h.right t d).0 i ∷ (h.right t d).1 i ∷ []) h.emits

-- a literal is over its limit exactly where its number up to 2^31 is
limited : (m n : ℕ) → n ≡ min m 2147483648 → ◌≡◌ {A = ℕ} (cond (leb m 2147483647) 0 1) (cond (leb n 2147483647) 0 1)
limited m n e = elim (dec_le m 2147483647) [
  | yes h ↦ ap (λ (b : Bool). cond {A = ℕ} b 0 1) (le-leb m 2147483647 h ∙ sym (le-leb n 2147483647 (omega arith)))
  | no h ↦ ap (λ (b : Bool). cond {A = ℕ} b 0 1) (lt-leb m 2147483647 (omega arith) ∙ sym (lt-leb n 2147483647 (omega arith)))
]

module _ {s : List ℕ} {at : ℕ} {t : Tok} (l : Lexed s at t) where
  token_lies : (kind_number t.kind ≡ 0 → ⊥) → (place : ℕ) (r : Got) → r.at ≡ t.stop → r.place ≡ place + 1 → Lies s at place (suc at) r
  token_lies n place r e ep =
      let lt = l.some (λ z. n (ap kind_number z)) in
      record { from = omega (arith, l.from); inside = omega (arith, l.within); room = omega (arith, l.from) }

  -- what is read is one token
  reads_token : {A : Type 0} (c : A → List Instr) (k : A → ℕ) (place most : ℕ) (b a : List ℕ) (r : Got) {is : List Instr} {j : ℕ} (z : A) → r.at ≡ t.stop
      → Since place most b is j r.place (level r.rank) a → c z ≡ is → k z ≡ j → Reads c k s (done z (skip_in (drop at s))) place most b a (Some r)
  reads_token c k place most b a r z er so ec ek =
      subst (λ (u : List ℕ). Reads c k s (done z u) place most b a (Some r)) (ap (λ (i : ℕ). drop i s) er ∙ sym l.next)
      (reads_done c k s place most b a z r (omega (arith, l.within)) so ec ek)

  pub literal_pushes : (kind_number t.kind ≡ 0 → ⊥) → (place n : ℕ) (most q : Rank) (b a : List ℕ) (r : Got)
      → n ≡ min (number (part s t.start t.stop)) 2147483648 → level q ≡ max (level most) (cond (leb n 2147483647) 0 1)
      → Emits 1 (0 ∷ n ∷ []) (record { at = t.stop; place = place; rank = q }) b a r → Pushes s at place (level most) b a r
  unfolding words
  literal_pushes nz place n most q b a r en eq em =
      let e : n ≡ min (number (text_at s at)) 2147483648 = en ∙ ap (λ (d : List ℕ). min (number d) 2147483648) (sym l.bytes) in
      record {
        reads =
            reads_token pushes literal_rank place (level most) b a r (text_at s at) em.at
            (since_emits (push n ∷ []) (since_rank (since_none place (level most) b) _ eq) em)
            (ap (λ (m : ℕ). push m ∷ []) (sym e)) (limited (number (text_at s at)) n e ∙ omega arith);
        within = token_lies nz place r em.at em.place;
      }

  pub name_loads : (kind_number t.kind ≡ 0 → ⊥) → (T : List ℕ) (place line : ℕ) (most q : Rank) (b a : List ℕ) (r : Got)
      → Fetches T s at line Cell (record { at = t.stop; place = place; rank = q }) b a r → Ranked T (text_at s at) 0 most q
      → Loads T s at line place (level most) b a r
  name_loads nz T place line most q b a r h ra = record {
    reads = λ e d.
        let v = variable_of T in
        let x = text_at s at in
        let em = fetches_emits T s at line Cell (record { at = t.stop; place = place; rank = q }) b a r h e d in
        reads_token (λ y. reads_of e v line y Cell ∷ [])
        (λ y. rank_of e v (refers y 0)) place (level most) b a r x em.at
        (since_emits (reads_of e v line x Cell ∷ []) (since_rank (since_none place (level most) b) _ (ra e d)) em)
        refl (omega arith);
    within = token_lies nz place r h.emits.at h.emits.place;
  }
