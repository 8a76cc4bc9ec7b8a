-- Where readers stop: in the line, and with room for what they emit after it.
use mathlib.Core.Path.{◌≡◌}
use mathlib.Core.List.{List}
use Prim.Native.Nat.{ℕ, ◌+◌, ◌*◌, ◌≤◌}
use native.Mathlib.Omega.{arith}
use lib.ListN.{length}
use Rattle.std.specs.Prelude.{Option, Some, None}
use Rattle.parts.specs.Answer.{Lies, Within, Ready}
use Rattle.parts.specs.Parts.{Closes, Emits}
use Rattle.parts.specs.declared.Got.{Got}

-- ---- after a reader

-- as a reader that began elsewhere sees it
pub lies_from : (s : List ℕ) (at place lo at' place' lo' : ℕ) (g : Got) → lo' ≤ lo → place + at' ≤ place' + at → Lies s at place lo g
    → Lies s at' place' lo' g
lies_from s at place lo at' place' lo' g le le' h = record { from = omega (arith, h.from); inside = h.inside; room = omega (arith, h.room) }

pub within_from : (s : List ℕ) (at place lo at' place' lo' : ℕ) (r : Option Got) → lo' ≤ lo → place + at' ≤ place' + at → Within s at place lo r
    → Within s at' place' lo' r
within_from s at place lo at' place' lo' None le le' h = tt
within_from s at place lo at' place' lo' (Some g) le le' h = lies_from s at place lo at' place' lo' g le le' h

-- and as the first of two readers sees where the second stops
pub within_then : (s : List ℕ) (at place lo : ℕ) (g : Got) (r : Option Got) → Lies s at place lo g → Within s g.at g.place g.at r → Within s at place lo r
within_then s at place lo g r h k = within_from s g.at g.place g.at at place lo r h.from h.room k

pub lies_emits : (k : ℕ) (ws : List ℕ) (g : Got) (m a : List ℕ) (r : Got) (s : List ℕ) (at place lo : ℕ) → Emits k ws g m a r
    → Lies s at place lo g → Lies s at (place + k) lo r
lies_emits k ws g m a r s at place lo e h = record {
  from = omega (arith, e.at, h.from);
  inside = omega (arith, e.at, h.inside);
  room = omega (arith, e.at, e.place, h.room);
}

pub lies_closed : {ch : ℕ} {s : List ℕ} {g r : Got} (at place lo : ℕ) → Closes ch s g r → Lies s at place lo g → Lies s (at + 1) place lo r
lies_closed at place lo e h =
    let fr = e.passed.from in
    record { from = omega (arith, h.from); inside = e.passed.within; room = omega (arith, e.place, h.room) }

-- ---- before the next

module _ (s : List ℕ) (at depth place : ℕ) (b : List ℕ) (ready : Ready s at depth place b) where
  -- each byte that was read makes room for an instruction
  pub ready_room : (k from lo : ℕ) (g : Got) (m : List ℕ) → at + k ≤ from → Lies s from place lo g → length m ≡ length b → 2 * (g.place + k) ≤ length m
  ready_room k from lo g m le h e = omega (arith, ready.room, ready.inside, h.inside, h.room)

  pub ready_next : (lo : ℕ) (g : Got) (m : List ℕ) → at ≤ lo → Lies s at place lo g → length m ≡ length b → Ready s g.at depth g.place m
  ready_next lo g m le h em = record {
    inside = h.inside;
    shallow = omega (arith, ready.shallow, h.from);
    short = ready.short;
    room = omega (arith, ready.room, ready.inside, h.inside, h.room);
  }

  -- and past a sign that follows
  pub ready_past : (lo : ℕ) (g : Got) (from : ℕ) (m : List ℕ) → at ≤ lo → Lies s at place lo g → g.at ≤ from → from ≤ length s
      → length m ≡ length b → Ready s from depth g.place m
  ready_past lo g from m le h nf fs em = record {
    inside = fs;
    shallow = omega (arith, ready.shallow, h.from);
    short = ready.short;
    room = omega (arith, ready.room, ready.inside, h.inside, h.room);
  }

  pub ready_later : (j from depth' : ℕ) (m : List ℕ) → at + j ≤ from → from ≤ length s → depth' ≤ depth + j → length m ≡ length b → Ready s from depth' place m
  ready_later j from depth' m le le' d em =
      record { inside = le'; shallow = omega (arith, ready.shallow); short = ready.short; room = omega (arith, ready.room) }
