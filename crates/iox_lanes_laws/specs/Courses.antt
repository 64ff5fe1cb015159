-- The accesses of whole calls, as far as their steps were answered.
use Rattle.std.specs.Prelude.{ℕ, ◌≡◌, ◌+◌, ◌-◌, ◌<◌, ◌^◌, ◌%◌, ◌==◌, if◌then◌else◌, List, [], ◌∷◌, length}
use Rattle.iox_queues_steps.specs.Access.{successor}
use Rattle.iox_queues_steps.specs.declared.access.Word.{Word}
use Rattle.iox_queues_steps.specs.declared.access.Word.TheVariants.{Write, Read, Cell}
use Rattle.iox_lanes_base.specs.declared.words.word.ConnectionRing.TheVariants.{Completion}
use Rattle.iox_lanes_base.specs.declared.words.word.SlotWord.TheVariants.{Payload}
use Rattle.iox_lanes_base.specs.declared.words.word.SharedWord.{SharedWord}
use Rattle.iox_lanes_base.specs.declared.words.word.SharedWord.TheVariants.{Ring, Slot}
use Rattle.iox_lanes_base.specs.declared.words.access.SharedAccess.{SharedAccess}
use Rattle.iox_lanes_base.specs.declared.words.access.SharedAccess.TheVariants.{Load, Store, Local}
use Rattle.iox_lanes_base.specs.Publishing.{publisher_next, publisher_take, loan_at, write_at}
use Rattle.iox_lanes_base.specs.declared.calls.route.Route.{Route}
use Rattle.iox_lanes_base.specs.declared.calls.publisher.PublisherCall.{PublisherCall}

-- The accesses of a publisher's call, one for each answer.
abbrev pub publisher_course : List Route → List ℕ → PublisherCall → List ℕ → List SharedAccess
publisher_course routes words call [] = []
publisher_course routes words call (answer ∷ answers) =
    publisher_next call ∷ publisher_course routes words (publisher_take routes words call answer) answers

-- The accesses of local steps, none of which touches a word.
abbrev pub quiet_course : List ℕ → List SharedAccess
quiet_course [] = []
quiet_course (answer ∷ answers) = Local ∷ quiet_course answers

-- A word of the completion ring of a connection.
abbrev pub back : Route → Word → SharedWord
back route word = Ring route.connection Completion word

-- The accesses of taking samples back at a connection: both positions are loaded. If they are equal, `next` follows; otherwise the oldest
-- cell is loaded, the read position is stored, and all this is done again.
abbrev pub reclaim_course : Route → (List ℕ → List SharedAccess) → List ℕ → List SharedAccess
reclaim_course route next [] = []
reclaim_course route next (read ∷ []) = Load (back route Read) ∷ []
reclaim_course route next (read ∷ write ∷ []) = Load (back route Read) ∷ Load (back route Write) ∷ []
reclaim_course route next (read ∷ write ∷ slot ∷ []) =
    Load (back route Read) ∷ Load (back route Write)
    ∷ (if write == read then next (slot ∷ []) else Load (back route (Cell (read % route.completion_cells))) ∷ [])
reclaim_course route next (read ∷ write ∷ slot ∷ stored ∷ answers) =
    Load (back route Read) ∷ Load (back route Write)
    ∷ (if write == read then next (slot ∷ stored ∷ answers)
    else Load (back route (Cell (read % route.completion_cells))) ∷ Store (back route Read) (successor read)
    ∷ reclaim_course route next answers)

-- The accesses of a loan: samples are taken back at one connection after the other, then no word is touched.
abbrev pub loan_course : List Route → List ℕ → List SharedAccess
loan_course [] answers = quiet_course answers
loan_course (route ∷ routes) answers = reclaim_course route (loan_course routes) answers

-- The accesses of a loan are its course (`loan_course`), for fewer than 2^64 - 1 connections.
abbrev pub LoansTakeBack : Type 0
LoansTakeBack = (routes : List Route) (words answers : List ℕ) → length routes < 2 ^ 64 - 1
    → publisher_course routes words (loan_at routes 0) answers ≡ loan_course routes answers

-- The accesses of a write: the words of the payload are stored one after the other, then no word is touched.
abbrev pub write_course : ℕ → ℕ → List ℕ → List ℕ → List SharedAccess
write_course slot word values [] = []
write_course slot word [] (answer ∷ answers) = Local ∷ quiet_course answers
write_course slot word (value ∷ values) (answer ∷ answers) = Store (Slot slot (Payload word)) value
    ∷ write_course slot (word + 1) values answers

-- The accesses of a write are its course (`write_course`), for fewer than 2^64 - 1 words.
abbrev pub WritesStore : Type 0
WritesStore = (routes : List Route) (words answers : List ℕ) (slot : ℕ) → length words < 2 ^ 64 - 1
    → publisher_course routes words (write_at words slot 0) answers ≡ write_course slot 0 words answers
