-- Values at places, and to whom a connection leads.
use Rattle.std.specs.Prelude.{ℕ, ◌≡◌, ◌-◌, ◌==◌, ◌≤◌, ◌++◌, Bool, true, false, List, length, get_or, replicate, Option, None, Some, if◌then◌else◌}
use Rattle.std.specs.List.{position}
use Rattle.iox_domain_ports.specs.declared.reader.Reader.{Reader}
use Rattle.iox_domain_ports.specs.declared.meeting.Meeting.{Meeting}
use Rattle.iox_domain_ports.specs.declared.meeting.Meeting.TheVariants as meeting

-- The list extended to at least `count` places; the new ones are empty.
abbrev pub reached : {A : Type 0} → ℕ → List (Option A) → List (Option A)
reached count places = places ++ replicate (count - length places) None

-- Whether the connection leads to this subscriber.
abbrev pub leads_to : ℕ → Option Reader → Bool
leads_to subscriber None = false
leads_to subscriber (Some reader) = reader.subscriber == subscriber

-- The reader after it was detached from the connection.
abbrev pub left : Option Reader → Option Reader
left None = None
left (Some reader) = Some (record reader { attached = false })

-- Whether a subscriber reads from the connection.
abbrev pub is_attached : Option Reader → Bool
is_attached None = false
is_attached (Some reader) = reader.attached

-- What a send meets at a full mailbox: it skips the mailbox if no subscriber reads from it.
abbrev pub unheard : Option Reader → Meeting
unheard None = meeting.Passed
unheard (Some reader) = if reader.attached then meeting.Full reader.subscriber else meeting.Passed

-- No subscriber reads at two indices.
abbrev pub AreApart : List (Option Reader) → Type 0
AreApart readers = (subscriber i j : ℕ) → leads_to subscriber (get_or readers i None) ≡ true
    → leads_to subscriber (get_or readers j None) ≡ true → i ≡ j

-- This subscriber reads at no other index.
abbrev pub IsNowhereElse : ℕ → ℕ → List (Option Reader) → Type 0
IsNowhereElse index subscriber readers = (other : ℕ) → leads_to subscriber (get_or readers other None) ≡ true → other ≡ index

-- The first connection that leads to this subscriber is at this index.
abbrev pub IsFoundAt : Option ℕ → ℕ → List (Option Reader) → Type 0
IsFoundAt index subscriber readers = index ≡ position (leads_to subscriber) readers

-- A reader, if there is one, is a subscriber with at most this number.
abbrev pub IsUpTo : ℕ → Option Reader → Type 0
IsUpTo newest None = Unit {0}
IsUpTo newest (Some reader) = reader.subscriber ≤ newest
