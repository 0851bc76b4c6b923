-- `places` meets its contract. Assumes nothing.
use native.Mathlib.Omega.{arith}
use Rattle.origins.proofs.Tracing.{places_are}
use Rattle.origins.proofs.CheckedSheet.places.Goals as goal

pub overflow_add-result : goal.overflow_add-result
overflow_add-result c = omega (arith, c.args.self.checked.laid.total_limit)

pub returns-clause-places : goal.returns-clause-places
returns-clause-places c = places_are c.args.self.checked

pub returns-clause-few : goal.returns-clause-few
returns-clause-few c = c.args.self.checked.laid.total_limit
