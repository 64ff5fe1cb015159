-- How far a send is.
use Rattle.std.specs.Prelude.{zero, suc, ℕ, ◌+◌, ◌-◌, ◌^◌, Bool, true, false, min}

-- How far a send is: the next place of the list of subscribers, how often and for how long it was tried, how many connections
-- took the message so far, and whether the send will fail.
pub record ProgressState : Type 0 where
  pub place : ℕ
  pub retries : ℕ
  pub elapsed : ℕ
  pub delivered : ℕ
  pub fails : Bool

-- The progress of a new send.
abbrev pub start : ProgressState
start = record { place = 0; retries = 0; elapsed = 0; delivered = 0; fails = false }

-- The progress after the place was skipped or done; the next place hasn't been tried yet.
abbrev pub passed : ProgressState → ProgressState
passed progress = record progress { place = progress.place + 1; retries = 0; elapsed = 0 }

-- The progress after this many places were skipped.
abbrev pub passed_all : ℕ → ProgressState → ProgressState
passed_all zero progress = progress
passed_all (suc count) progress = record progress { place = progress.place + suc count; retries = 0; elapsed = 0 }

-- The progress after the connection of the place took the message.
abbrev pub counted : ProgressState → ProgressState
counted progress = record (passed progress) { delivered = progress.delivered + 1 }

-- The progress after the place was skipped; the send will fail.
abbrev pub failing : ProgressState → ProgressState
failing progress = record (passed progress) { fails = true }

-- The progress after one more try at the place; retries are counted up to 2^64 - 1.
abbrev pub tried_again : ℕ → ProgressState → ProgressState
tried_again elapsed progress = record progress { retries = min (progress.retries + 1) (2 ^ 64 - 1); elapsed = elapsed }
