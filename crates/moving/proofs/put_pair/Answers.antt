-- `put_pair` meets its contract. Assumes nothing.
use mathlib.Core.Path.{refl}
use Rattle.moving.proofs.Planning.{pair_put}
use Rattle.moving.proofs.put_pair.Goals as goal

pub returns : goal.returns
returns c = pair_put c.requires _ _ _ _ _ _ c.put_bytes-at.ensures c.put_count.ensures c.put_groups.ensures refl c.zero.ensures
