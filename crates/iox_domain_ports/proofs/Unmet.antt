-- No connection is left to be met where all were.
use Rattle.std.proofs.Common.{arith, cond, ◌≡◌, ◌≤◌, ◌∷◌, [], ℕ, zero, suc, Bool, false, List, drop, Option, None, Some, refl}
use Rattle.std.specs.Prelude.{is_some, count_by}
use Rattle.std.proofs.lemmas.List.Sums.{sum_by-cons}
use Rattle.iox_container.specs.SlotTable.{value_at}
use Rattle.iox_domain_ports.specs.Receiving.{unmet_from, IsOne}
use Rattle.iox_domain_ports.specs.Subscribing.{has_data, gives}
use Rattle.iox_domain_ports.specs.declared.attached.Attached.{Attached}
use Rattle.iox_domain_ports.specs.declared.publisher_port.PublisherPort.{PublisherPort}
use Rattle.iox_domain_ports.specs.declared.subscriber_port.SubscriberPort.{SubscriberPort}
use Rattle.iox_domain_ports.proofs.Asking.{IsOneBelow}
use Rattle.iox_domain_ports.proofs.First.{none_first, no_data_without, none_given_without}

-- one more where there is a connection
abbrev one_if : Option Attached → ℕ
one_if found = cond (is_some found) 1 0

none_there : (connections : List (Option Attached)) (key : ℕ) → count_by is_some connections ≡ 0 → value_at connections key ≡ None
none_there [] key none = refl
none_there (None ∷ rest) zero none = refl
none_there (None ∷ rest) (suc key) none = none_there rest key none
none_there (Some found ∷ rest) key none = absurd (omega (arith, none, sum_by-cons one_if (Some found) rest))

-- where none is left no key from one on has a connection
pub none_unmet : (connections : List (Option Attached)) (key other : ℕ) → unmet_from key connections ≡ 0 → key ≤ other
    → value_at connections other ≡ None
none_unmet connections zero other none past = none_there connections other none
none_unmet [] (suc key) other none past = refl
none_unmet (found ∷ rest) (suc key) zero none past = absurd (omega (arith, past))
none_unmet (found ∷ rest) (suc key) (suc other) none past = none_unmet rest key other none (omega (arith, past))

-- so none of them has data or gives
pub no_data_left : {T U : Type 0} (port : SubscriberPort) (ports : List (ℕ × PublisherPort T U)) (key other : ℕ)
    → unmet_from key port.connections.values ≡ 0 → key ≤ other → has_data port ports other ≡ false
no_data_left port ports key other none past
    = no_data_without port ports other (none_unmet port.connections.values key other none past)

pub none_gives_left : {T U : Type 0} (port : SubscriberPort) (ports : List (ℕ × PublisherPort T U)) (key other : ℕ)
    → unmet_from key port.connections.values ≡ 0 → key ≤ other → gives port ports other ≡ false
none_gives_left port ports key other none past
    = none_given_without port ports other (none_unmet port.connections.values key other none past)

-- what is found among the numbers below one is found among all where none passes from it on
pub one_of_all : (test : ℕ → Bool) (key : ℕ) (unread : Option ℕ) → IsOneBelow test key unread
    → ((other : ℕ) → key ≤ other → test other ≡ false) → IsOne test unread
one_of_all test key None below past = none_first test key below past
one_of_all test key (Some found) below past = below
