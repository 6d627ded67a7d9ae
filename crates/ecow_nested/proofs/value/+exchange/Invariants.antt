use Rattle.std.proofs.Common.{◌+◌, ◌*◌, length}
use Rattle.ecow_nested.proofs.value.+exchange.Given as goal

abbrev pub decreases-Value::exchange_at : goal.decreases-Value::exchange_at
decreases-Value::exchange_at l = 3 * length l.path.now

abbrev pub decreases-paths::exchange_in_item : goal.decreases-paths::exchange_in_item
decreases-paths::exchange_in_item l = 3 * length l.rest.now + 2

abbrev pub decreases-paths::exchange_in_field : goal.decreases-paths::exchange_in_field
decreases-paths::exchange_in_field l = 3 * length l.rest.now + 2

abbrev pub decreases-paths::exchange_in_place : goal.decreases-paths::exchange_in_place
decreases-paths::exchange_in_place l = 3 * length l.rest.now + 1
