-- Readers one after another.
use mathlib.Core.Path.{◌≡◌, refl}
use Rattle.syntax.specs.Reader.{Parsed, broken, done, Reader, next}

pub next_assoc : {S A B C : Type 0} (p : Parsed S A) (f : A → Reader S B) (g : B → Reader S C) → next (next p f) g ≡ next p (λ a s. next (f a s) g)
next_assoc broken f g = refl
next_assoc (done a s) f g = refl

pub next_same : {S A B : Type 0} (p : Parsed S A) (f g : A → Reader S B) → ((a : A) (s : S) → f a s ≡ g a s) → next p f ≡ next p g
next_same broken f g e = refl
next_same (done a s) f g e = e a s
