use Rattle.std.proofs.Common.{◌≡◌, ◌<◌, length, Some, slice_get, rules}
use Rattle.iox_container.specs.SlotTable.{stored}
use Rattle.iox_container.proofs.Tables.{first_among, free_within, without_is_rest}
use Rattle.iox_container.proofs.slot_map.SlotMap.insert.Goals as goal

pub returns-clause-some : goal.returns-clause-some
returns-clause-some g c =
    let t = c.args.self.now in
    let first : slice_get t.free 0 ≡ Some c.in_ok-key.key = search rules in
    let within : c.in_ok-key.key < length t.values = free_within t _ c.in_ok-key.ensures.free_keys (first_among _ _ first) in
    search rules

pub returns-clause-rest : goal.returns-clause-rest
returns-clause-rest g c =
    let t = c.args.self.now in
    let first : slice_get t.free 0 ≡ Some c.in_ok-key.key = search rules in
    let within : c.in_ok-key.key < length t.values = free_within t _ c.in_ok-key.ensures.free_keys (first_among _ _ first) in
    let is : c.insert_at.new.self ≡ stored t c.in_ok-key.key c.args.value = search rules in
    rw is (without_is_rest t.free _ c.in_ok-key.ensures.free_keys.distinct first)

pub returns-clause-within : goal.returns-clause-within
returns-clause-within g c =
    let first : slice_get c.args.self.now.free 0 ≡ Some c.in_ok-key.key = search rules in
    free_within c.args.self.now _ c.in_ok-key.ensures.free_keys (first_among _ _ first)

pub returns-clause-free : goal.returns-clause-free
returns-clause-free g c =
    let first : slice_get c.args.self.now.free 0 ≡ Some c.in_ok-key.key = search rules in
    ((c.in_ok-key.ensures.free_keys.exact c.in_ok-key.key).0 (first_among _ _ first)).1
