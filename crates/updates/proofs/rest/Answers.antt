-- `updates::rest` meets its contract, operator by operator.
use Rattle.updates.proofs.Resting.{rest_by}
use Rattle.updates.proofs.rest.Goals as goal

pub returns-in-Sum : goal.returns-in-Sum
returns-in-Sum c = rest_by c.in-Sum.is c.summand.ensures

pub returns-in-Product : goal.returns-in-Product
returns-in-Product c = rest_by c.in-Product.is c.multiplicand.ensures

pub returns-in-Maximum : goal.returns-in-Maximum
returns-in-Maximum c = rest_by c.in-Maximum.is c.rival.ensures
