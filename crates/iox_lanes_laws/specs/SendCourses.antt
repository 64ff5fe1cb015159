-- The accesses of a whole send, as far as its steps were answered.
use Rattle.std.specs.Prelude.{ℕ, ◌≡◌, ◌+◌, ◌-◌, ◌<◌, ◌^◌, ◌%◌, nat_lt, if◌then◌else◌, List, [], ◌∷◌, length}
use Rattle.iox_queues_steps.specs.Access.{successor}
use Rattle.iox_queues_steps.specs.declared.access.Word.{Word}
use Rattle.iox_queues_steps.specs.declared.access.Word.TheVariants.{Write, Read, Cell}
use Rattle.iox_queues_steps.specs.declared.rings.ends.RingKind.{RingKind}
use Rattle.iox_queues_steps.specs.declared.rings.ends.RingKind.TheVariants.{Overflowing, Refusing}
use Rattle.iox_lanes_base.specs.declared.words.word.ConnectionRing.TheVariants.{Submission}
use Rattle.iox_lanes_base.specs.declared.words.word.SharedWord.{SharedWord}
use Rattle.iox_lanes_base.specs.declared.words.word.SharedWord.TheVariants.{Ring, Slot}
use Rattle.iox_lanes_base.specs.declared.words.access.SharedAccess.{SharedAccess}
use Rattle.iox_lanes_base.specs.declared.words.access.SharedAccess.TheVariants.{Load, Store, Exchange, Local}
use Rattle.iox_lanes_base.specs.Publishing.{header_word, head_at}
use Rattle.iox_lanes_base.specs.declared.calls.route.Route.{Route}
use Rattle.iox_lanes_laws.specs.Courses.{publisher_course, quiet_course, reclaim_course}

-- A word of the submission ring of a connection.
abbrev pub sent : Route → Word → SharedWord
sent route word = Ring route.connection Submission word

-- The words of header and user header are stored one after the other, then `next` follows.
abbrev pub head_course : ℕ → ℕ → (List ℕ → List SharedAccess) → List ℕ → List ℕ → List SharedAccess
head_course slot word next [] answers = next answers
head_course slot word next (value ∷ values) [] = []
head_course slot word next (value ∷ values) (answer ∷ answers) =
    Store (Slot slot (header_word word)) value ∷ head_course slot (word + 1) next values answers

-- One step touches no word, then `next` follows.
abbrev pub local_course : (List ℕ → List SharedAccess) → List ℕ → List SharedAccess
local_course next [] = []
local_course next (answer ∷ answers) = Local ∷ next answers

-- Samples are taken back at one connection after the other, then `next` follows.
abbrev pub sweep_course : (List ℕ → List SharedAccess) → List Route → List ℕ → List SharedAccess
sweep_course next [] answers = next answers
sweep_course next (route ∷ routes) answers = reclaim_course route (sweep_course next routes) answers

-- The cell and the write position are stored, then `next` follows.
abbrev pub fill_course : (Word → SharedWord) → ℕ → ℕ → ℕ → (List ℕ → List SharedAccess) → List ℕ → List SharedAccess
fill_course ring cells slot write next [] = []
fill_course ring cells slot write next (filled ∷ []) = Store (ring (Cell (write % cells))) slot ∷ []
fill_course ring cells slot write next (filled ∷ stored ∷ answers) =
    Store (ring (Cell (write % cells))) slot ∷ Store (ring Write) (successor write) ∷ next answers

-- A push on a refusing ring: both positions are loaded; if there is space, the cell and the write position are stored; then `next` follows.
abbrev pub refusing_course : (Word → SharedWord) → ℕ → ℕ → ℕ → (List ℕ → List SharedAccess) → List ℕ → List SharedAccess
refusing_course ring cells limit slot next [] = []
refusing_course ring cells limit slot next (write ∷ []) = Load (ring Write) ∷ []
refusing_course ring cells limit slot next (write ∷ read ∷ answers) =
    Load (ring Write) ∷ Load (ring Read)
    ∷ (if nat_lt (write - read) limit then fill_course ring cells slot write next answers else next answers)

-- The oldest cell is loaded, and the read position exchanged, whether or not a pop came first; then `next` follows.
abbrev pub oldest_course : (Word → SharedWord) → ℕ → ℕ → (List ℕ → List SharedAccess) → List ℕ → List SharedAccess
oldest_course ring cells read next [] = []
oldest_course ring cells read next (oldest ∷ []) = Load (ring (Cell (read % cells))) ∷ []
oldest_course ring cells read next (oldest ∷ found ∷ answers) =
    Load (ring (Cell (read % cells))) ∷ Exchange (ring Read) read (successor read) ∷ next answers

-- A push on an overflowing ring: both positions are loaded, the cell and the write position are stored; if more messages wait then than the
-- maximum, the oldest one is dropped; then `next` follows.
abbrev pub overflowing_course : (Word → SharedWord) → ℕ → ℕ → ℕ → (List ℕ → List SharedAccess) → List ℕ → List SharedAccess
overflowing_course ring cells limit slot next [] = []
overflowing_course ring cells limit slot next (write ∷ []) = Load (ring Write) ∷ []
overflowing_course ring cells limit slot next (write ∷ read ∷ answers) =
    Load (ring Write) ∷ Load (ring Read)
    ∷ fill_course ring cells slot write
    (λ later. if nat_lt limit (successor write - read) then oldest_course ring cells read next later else next later)
    answers

-- A push on a ring of either kind, then `next` follows.
abbrev pub push_course : RingKind → (Word → SharedWord) → ℕ → ℕ → ℕ → (List ℕ → List SharedAccess) → List ℕ → List SharedAccess
push_course Overflowing ring cells limit slot next answers = overflowing_course ring cells limit slot next answers
push_course Refusing ring cells limit slot next answers = refusing_course ring cells limit slot next answers

-- The slot is pushed to one connection after the other, then no word is touched.
abbrev pub pushes_course : ℕ → List Route → List ℕ → List SharedAccess
pushes_course slot [] answers = quiet_course answers
pushes_course slot (route ∷ routes) answers =
    push_course route.kind (sent route) route.submission_cells route.limit slot (pushes_course slot routes) answers

-- The accesses of a send: header and user header, the step for the history, taking samples back at each connection, and a push to each.
abbrev pub send_course : ℕ → List ℕ → List Route → List ℕ → List SharedAccess
send_course slot words routes answers =
    head_course slot 0 (local_course (sweep_course (pushes_course slot routes) routes)) words answers

-- The accesses of a send are its course (`send_course`), for fewer than 2^64 - 1 connections and words.
abbrev pub SendsPush : Type 0
SendsPush = (routes : List Route) (words answers : List ℕ) (slot : ℕ) → length routes < 2 ^ 64 - 1 → length words < 2 ^ 64 - 1
    → publisher_course routes words (head_at words slot 0) answers ≡ send_course slot words routes answers
