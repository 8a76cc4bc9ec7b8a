-- `fitting::needed_words` meets its contract.
use native.Mathlib.Omega.{arith}
use Rattle.fitting.proofs.Numbers.{needed_most}
use Rattle.fitting.proofs.needed_words.Goals as goal

pub overflow_mul-result-3 : goal.overflow_mul-result-3
overflow_mul-result-3 c = omega (arith, needed_most c.args.n c.args.processors c.requires.0 c.requires.1)

pub overflow_add-result-3 : goal.overflow_add-result-3
overflow_add-result-3 c = omega (arith, needed_most c.args.n c.args.processors c.requires.0 c.requires.1)
