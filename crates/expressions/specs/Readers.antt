-- The readers of a function's two expressions and of a name's subscripts over what is left of a line's bytes, by those of `Rattle.syntax.specs.Reader`.
use Rattle.std.specs.Prelude.{ℕ, List}
use Rattle.syntax.specs.declared.Function.{Function}
use Rattle.syntax.specs.Grammar.{Factor, call, Subscripts}
use Rattle.syntax.specs.Reader.{Reader, read_pair, read_subscripts, read_expr, peek_in, skip_in}

-- what follows the function and its bracket
abbrev pub read_arguments : Function → ℕ → Reader (List ℕ) Factor
read_arguments g f = read_pair peek_in skip_in (read_expr peek_in skip_in f) (call g)

-- what follows a name and its bracket
abbrev pub read_indices : ℕ → Reader (List ℕ) Subscripts
read_indices f = read_subscripts peek_in skip_in (read_expr peek_in skip_in f)
