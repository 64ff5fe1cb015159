-- What a port knows at each stage of a push or a pop that it makes in threads.
use Rattle.std.specs.Prelude.{ℕ, ◌≡◌, ◌<◌, ◌≤◌, ◌^◌}
use Rattle.iox_lanes_machine.specs.QueuesSteps.Access.{successor}
use Rattle.iox_lanes_machine.specs.QueuesSteps.declared.rings.overflowing.push.Push as overflowing_push_type
use Rattle.iox_lanes_machine.specs.QueuesSteps.declared.rings.overflowing.push.Push.TheVariants as overflowing_push
use Rattle.iox_lanes_machine.specs.QueuesSteps.declared.rings.overflowing.pop.Pop as overflowing_pop_type
use Rattle.iox_lanes_machine.specs.QueuesSteps.declared.rings.overflowing.pop.Pop.TheVariants as overflowing_pop
use Rattle.iox_lanes_machine.specs.QueuesSteps.declared.rings.refusing.push.Push as refusing_push_type
use Rattle.iox_lanes_machine.specs.QueuesSteps.declared.rings.refusing.push.Push.TheVariants as refusing_push
use Rattle.iox_lanes_machine.specs.QueuesSteps.declared.rings.refusing.pop.Pop as refusing_pop_type
use Rattle.iox_lanes_machine.specs.QueuesSteps.declared.rings.refusing.pop.Pop.TheVariants as refusing_pop
use Rattle.iox_lanes_machine.specs.QueuesSteps.declared.rings.ends.RingKind.TheVariants as kind
use Rattle.iox_lanes_machine.specs.QueuesSteps.declared.rings.ends.Push.{Push}
use Rattle.iox_lanes_machine.specs.QueuesSteps.declared.rings.ends.Push.TheVariants as push
use Rattle.iox_lanes_machine.specs.QueuesSteps.declared.rings.ends.Pop.{Pop}
use Rattle.iox_lanes_machine.specs.QueuesSteps.declared.rings.ends.Pop.TheVariants as pop
use Rattle.iox_lanes_machine.specs.LanesBase.declared.words.word.SharedWord.{SharedWord}
use Rattle.iox_lanes_machine.specs.LanesBase.declared.calls.route.Route.{Route}
use Rattle.iox_lanes_threads_rule.specs.Rule.{held}
use Rattle.iox_lanes_threads_rule.specs.Service.{write_word, read_word}
use Rattle.iox_lanes_threads_rule.specs.declared.view.Port.{Port}

-- The value that the port knows of the word.
abbrev pub knows : Port → SharedWord → ℕ
knows p w = held p.service p.known w

-- The value is the number of a slot, if there are slots.
abbrev pub NamesSlot : Port → ℕ → Type 0
NamesSlot p value = 0 < p.service.sizes.slots → value < p.service.sizes.slots

-- The port knows that the position in this word is `seen`, which is below 2^64.
abbrev pub At : Port → SharedWord → ℕ → Type 0
At p w seen = (knows p w ≡ seen) × (seen < 2 ^ 64)

-- What the port knows at each stage of a pop, or a look, if it alone moves the read position.
abbrev pub LonePop : Port → SharedWord → refusing_pop_type.Pop → Type 0
LonePop p read refusing_pop.Idle = Unit {0}
LonePop p read refusing_pop.Begun = Unit {0}
LonePop p read (refusing_pop.SawRead seen) = At p read seen
LonePop p read (refusing_pop.Nonempty seen next) = At p read seen × (next ≡ successor seen)
LonePop p read (refusing_pop.SawCell next value) = knows p read ≤ next
LonePop p read (refusing_pop.Popped got) = Unit {0}
LonePop p read refusing_pop.LookBegun = Unit {0}
LonePop p read (refusing_pop.LookRead seen) = Unit {0}
LonePop p read (refusing_pop.Looked some) = Unit {0}

-- What the port knows at each stage of a push on a refusing ring.
abbrev pub LonePush : Port → SharedWord → refusing_push_type.Push → Type 0
LonePush p write refusing_push.Idle = Unit {0}
LonePush p write (refusing_push.Begun limit value) = NamesSlot p value
LonePush p write (refusing_push.SawWrite limit value seen next) = NamesSlot p value × At p write seen × (next ≡ successor seen)
LonePush p write (refusing_push.SawRoom value seen next) = NamesSlot p value × At p write seen × (next ≡ successor seen)
LonePush p write (refusing_push.Filled value next) = knows p write ≤ next
LonePush p write (refusing_push.Pushed value answer) = Unit {0}

-- What the port knows at each stage of a push on the overflowing submission ring of a connection.
abbrev pub OverPush : Port → ℕ → overflowing_push_type.Push → Type 0
OverPush p connection overflowing_push.Idle = Unit {0}
OverPush p connection (overflowing_push.Begun limit value) = (0 < limit) × NamesSlot p value
OverPush p connection (overflowing_push.SawWrite limit value write next) =
    (0 < limit) × NamesSlot p value × At p (write_word connection) write × (next ≡ successor write)
OverPush p connection (overflowing_push.SawRead limit value write next read) =
    (0 < limit) × NamesSlot p value × At p (write_word connection) write × (next ≡ successor write) × (read < 2 ^ 64)
OverPush p connection (overflowing_push.Filled limit value write next read) =
    (0 < limit) × (knows p (write_word connection) ≤ next) × (read < 2 ^ 64)
OverPush p connection (overflowing_push.Full value read next) = (read ≤ next) × (next < knows p (write_word connection))
OverPush p connection (overflowing_push.SawOldest value read next oldest) = (read ≤ next) × (next < knows p (write_word connection))
OverPush p connection (overflowing_push.Pushed value answer) = Unit {0}

-- A message waits at the read position `seen` that the subscriber knows, and `next` is the position after it.
abbrev pub WaitsAt : Port → ℕ → ℕ → ℕ → Type 0
WaitsAt p connection seen next = At p (read_word connection) seen × (seen < knows p (write_word connection)) × (next ≡ successor seen)

-- What the port knows at each stage of a pop, or a look, on the overflowing submission ring of a connection.
abbrev pub OverPop : Port → ℕ → overflowing_pop_type.Pop → Type 0
OverPop p connection overflowing_pop.Idle = Unit {0}
OverPop p connection overflowing_pop.Begun = Unit {0}
OverPop p connection (overflowing_pop.SawRead seen) = At p (read_word connection) seen
OverPop p connection (overflowing_pop.Nonempty seen next) = WaitsAt p connection seen next
OverPop p connection (overflowing_pop.SawCell seen next value) = WaitsAt p connection seen next
OverPop p connection (overflowing_pop.Popped got) = Unit {0}
OverPop p connection overflowing_pop.LookBegun = Unit {0}
OverPop p connection (overflowing_pop.LookRead seen) = Unit {0}
OverPop p connection (overflowing_pop.Looked some) = Unit {0}

-- What the port knows at each stage of a push on the submission ring of a connection.
abbrev pub PushKnows : Port → Route → Push → Type 0
PushKnows p route (push.Overflowing own) = (route.kind ≡ kind.Overflowing) × OverPush p route.connection own
PushKnows p route (push.Refusing own) = LonePush p (write_word route.connection) own

-- What the port knows at each stage of a pop, or a look, on the submission ring of a connection.
abbrev pub PopKnows : Port → Route → Pop → Type 0
PopKnows p route (pop.Overflowing own) = (route.kind ≡ kind.Overflowing) × OverPop p route.connection own
PopKnows p route (pop.Refusing own) = (route.kind ≡ kind.Refusing) × LonePop p (read_word route.connection) own
