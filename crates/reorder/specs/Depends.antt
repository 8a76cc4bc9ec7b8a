-- RULES 8 a and b (document 02, Point 7): which cells an iteration touches and changes, and which iterations depend on each other. No operation is asked to
-- commute: an update changes its cell like a write, so iterations that update one cell depend on each other, whatever the updates do.
use Rattle.std.proofs.Common.{sym, subst, inl, inr}
use Rattle.std.specs.Prelude.{◌≢◌, ◌⊎◌, [], ◌∷◌, ℕ, ℤ}
use Rattle.std.proofs.Math.Decide.{ℕ_discrete}
use Rattle.rules.specs.Log.{Kind, reads, writes, updates, access, Log, each, Has, newest, older}
use Rattle.rules.specs.LogLaws.{has_nil, has_cases}
use Rattle.rules.specs.Decide.{has?, either?, both?}

-- c is read, written or updated
abbrev pub Touches : ℕ → Log → Type 0
Touches c g = (k : Kind) × Has k c g

-- c is written or updated
abbrev pub Changes : ℕ → Log → Type 0
Changes c g = Has writes c g ⊎ Has updates c g

-- both touch a cell and one of them writes or updates it
pub record Meet (g h : Log) : Type 0 where
  pub cell : ℕ
  pub left : Touches cell g
  pub right : Touches cell h
  pub change : Changes cell g ⊎ Changes cell h

-- Document 02, Point 7: "Two iterations depend if both touch a cell in the serial run and one writes or updates it"; g are the accesses of that run
abbrev pub Depends : Log → ℕ → ℕ → Type 0
Depends g i j = Meet (each i g) (each j g)

-- ---- each is decided

pub changes_touches : {c : ℕ} {g : Log} → Changes c g → Touches c g
changes_touches (inl h) = (writes, h)
changes_touches (inr h) = (updates, h)

pub touches_nil : {c : ℕ} → Touches c [] → ⊥
touches_nil t = has_nil t.1

-- an access to another cell adds nothing
pub has_past : {k q : Kind} {c i d : ℕ} {v : ℤ} {g : Log} → d ≢ c → Has k c (access q i d v ∷ g) → Has k c g
has_past n h = elim (has_cases h) [ inl p ↦ absurd (n p.1) | inr t ↦ t ]

pub touches_past : {q : Kind} {c i d : ℕ} {v : ℤ} {g : Log} → d ≢ c → Touches c (access q i d v ∷ g) → Touches c g
touches_past n t = (t.0, has_past n t.1)

pub changes_past : {q : Kind} {c i d : ℕ} {v : ℤ} {g : Log} → d ≢ c → Changes c (access q i d v ∷ g) → Changes c g
changes_past n (inl t) = inl (has_past n t)
changes_past n (inr t) = inr (has_past n t)

unfoldable pub changes? : (c : ℕ) (g : Log) → Dec (Changes c g)
changes? c g = either? (has? writes c g) (has? updates c g)

unfoldable pub touches? : (c : ℕ) (g : Log) → Dec (Touches c g)
touches? c g = elim (has? reads c g) [
  | yes h ↦ yes (reads, h)
  | no n ↦ elim (changes? c g) [ yes h ↦ yes (changes_touches h) | no m ↦ no (λ t. kinds n m t.0 t.1) ]
]
  where
    kinds : ¬ Has reads c g → ¬ Changes c g → (k : Kind) → Has k c g → ⊥
    kinds n m reads h = n h
    kinds n m writes h = m (inl h)
    kinds n m updates h = m (inr h)

-- the part of a meeting at one cell
abbrev pub At : ℕ → Log → Log → Type 0
At c g h = Touches c h × (Changes c g ⊎ Changes c h)

unfoldable pub at? : (c : ℕ) (g h : Log) → Dec (At c g h)
at? c g h = both? (touches? c h) (either? (changes? c g) (changes? c h))

unfoldable pub meet? : (g h : Log) → Dec (Meet g h)
meet? [] h = no (λ m. touches_nil m.left)
meet? (access q i d v ∷ g) h = elim (at? d (access q i d v ∷ g) h) [
  | yes a ↦ yes (record { cell = d; left = (q, newest); right = a.0; change = a.1 })
  | no n ↦ elim (meet? g h) [
    | yes m ↦ yes (record {
      cell = m.cell;
      left = (m.left.0, older m.left.1);
      right = m.right;
      change = elim m.change [ inl (inl x) ↦ inl (inl (older x)) | inl (inr x) ↦ inl (inr (older x)) | inr x ↦ inr x ];
    })
    | no r ↦ no (λ m. elim (ℕ_discrete d m.cell) [
      | yes p ↦ n (subst (λ (c : ℕ). At c (access q i d v ∷ g) h) (sym p) (m.right, m.change))
      | no p ↦ r (record {
        cell = m.cell;
        left = touches_past p m.left;
        right = m.right;
        change = elim m.change [ inl x ↦ inl (changes_past p x) | inr x ↦ inr x ];
      })
    ])
  ]
]

unfoldable pub depends? : (g : Log) (i j : ℕ) → Dec (Depends g i j)
depends? g i j = meet? (each i g) (each j g)
