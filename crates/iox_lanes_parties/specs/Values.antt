-- A program's own values as the words of calls.
use Rattle.std.specs.Prelude.{ℕ, ◌≡◌, ◌+◌, ◌==◌, ◌&&◌, Bool, false, List, length, take, drop}
use Rattle.iox_lanes_parties.specs.declared.call.Call.{Call}
use Rattle.iox_lanes_parties.specs.declared.call.Call.TheVariants as call

-- The call is the write of these words of payload and user header into the loan.
abbrev pub IsWriteOf : ℕ → List ℕ → List ℕ → Call → Type 0
IsWriteOf loan payload user_header call.LoanUninit = ⊥
IsWriteOf loan payload user_header (call.Write slot words header) = (slot ≡ loan) × (words.items ≡ payload) × (header.items ≡ user_header)
IsWriteOf loan payload user_header (call.Send slot) = ⊥
IsWriteOf loan payload user_header (call.DropLoan slot) = ⊥
IsWriteOf loan payload user_header call.Receive = ⊥
IsWriteOf loan payload user_header (call.Read sample) = ⊥
IsWriteOf loan payload user_header (call.Release sample) = ⊥

-- The call is a write with these numbers of words of payload and of user header.
abbrev pub HasWidths : ℕ → ℕ → Call → Type 0
HasWidths payload_count header_count call.LoanUninit = ⊥
HasWidths payload_count header_count (call.Write slot words header) = (length words.items ≡ payload_count)
    × (length header.items ≡ header_count)
HasWidths payload_count header_count (call.Send slot) = ⊥
HasWidths payload_count header_count (call.DropLoan slot) = ⊥
HasWidths payload_count header_count call.Receive = ⊥
HasWidths payload_count header_count (call.Read sample) = ⊥
HasWidths payload_count header_count (call.Release sample) = ⊥

-- Whether the call is a write with these numbers of words of payload and of user header.
abbrev pub is_as_wide : ℕ → ℕ → Call → Bool
is_as_wide payload_count header_count call.LoanUninit = false
is_as_wide payload_count header_count (call.Write slot words header) = (length words.items == payload_count)
    && (length header.items == header_count)
is_as_wide payload_count header_count (call.Send slot) = false
is_as_wide payload_count header_count (call.DropLoan slot) = false
is_as_wide payload_count header_count call.Receive = false
is_as_wide payload_count header_count (call.Read sample) = false
is_as_wide payload_count header_count (call.Release sample) = false

-- The values are those of a message with these words: three of its header, then those of a user header, then those of a payload.
pub record AreValues {T U : Type 0} (value_of : List ℕ → T) (header_of : List ℕ → U) (payload_count header_count : ℕ) (words : List ℕ)
    (values : U × T) : Type 0 where
  pub long : length words ≡ 3 + header_count + payload_count
  pub user_header : values.0 ≡ header_of (take header_count (drop 3 words))
  pub payload : values.1 ≡ value_of (take payload_count (drop (3 + header_count) words))
