-- Lanes after the order of one connection after the other.
use Rattle.std.proofs.Common.{arith, ℕ, zero, suc, ◌≡◌, ◌+◌, ◌-◌, ◌≤◌, is_some, count_by, List, take, length, get_or, slice_get, Option}
use Rattle.std.proofs.Common.{None, sym, ap, ◌∙◌}
use Rattle.iox_domain.specs.DomainPorts.declared.attached.Attached.{Attached}
use Rattle.iox_domain.specs.DomainPorts.declared.subscriber_port.SubscriberPort.{SubscriberPort}
use Rattle.iox_lanes_machine.specs.World.{World}
use Rattle.iox_lanes.specs.Holding.{reader_if}
use Rattle.iox_lanes.specs.Ordered.{keys_behind, reader_behind, readers_behind, swap_behind}

module _ (publishers : List ℕ) (subscriber : ℕ) (values : List (Option Attached)) (m : World) where
  -- a key that has no connection is no matter
  none_behind : (key : ℕ) → get_or values key None ≡ None
      → keys_behind publishers subscriber values m (suc key) ≡ keys_behind publishers subscriber values m key
  none_behind key none = ap (swap_behind publishers subscriber (count_by is_some (take key values))
      (keys_behind publishers subscriber values m key)) none

  more_keys : (reached more : ℕ) → ((key : ℕ) → reached ≤ key → get_or values key None ≡ None)
      → keys_behind publishers subscriber values m (reached + more) ≡ keys_behind publishers subscriber values m reached
  more_keys reached zero none = ap (keys_behind publishers subscriber values m) (omega arith)
  more_keys reached (suc more) none =
      let next : reached + suc more ≡ suc (reached + more) = omega arith in
      ap (keys_behind publishers subscriber values m) next ∙ none_behind (reached + more) (none (reached + more) (omega arith)) ∙
      more_keys reached more none

  -- so it is of all keys, where those after the reached ones have none
  pub all_keys : (now : World) (reached : ℕ) → ((key : ℕ) → reached ≤ key → get_or values key None ≡ None) → reached ≤ length values
      → now ≡ keys_behind publishers subscriber values m reached
      → now ≡ keys_behind publishers subscriber values m (length values)
  all_keys now reached none few sofar =
      let whole : reached + (length values - reached) ≡ length values = omega (arith, few) in
      sofar ∙ sym (more_keys reached (length values - reached) none) ∙ ap (keys_behind publishers subscriber values m) whole

-- one subscriber more
pub next_reader : (publishers : List ℕ) (readers : List (ℕ × SubscriberPort)) (subscribers : List ℕ) (m now after : World) (place : ℕ)
    (port : Option SubscriberPort)
    → port ≡ reader_if readers (slice_get subscribers place) → now ≡ readers_behind publishers readers subscribers m place
    → after ≡ reader_behind publishers place now port
    → after ≡ readers_behind publishers readers subscribers m (place + 1)
next_reader publishers readers subscribers m now after place port there sofar is =
    let next : suc place ≡ place + 1 = omega arith in
    is ∙ ap (reader_behind publishers place now) there ∙ ap
    (λ w. reader_behind publishers place w (reader_if readers (slice_get subscribers place))) sofar ∙ ap
    (readers_behind publishers readers subscribers m) next
