-- What each of the findings of a domain leaves, all do.
use Rattle.std.proofs.Common.{arith, ℕ, zero, suc, ◌≡◌, ◌<◌, ◌⊎◌, List, [], ◌∷◌, ◌++◌, length, take, flat_map, slice_get, slice_index}
use Rattle.std.proofs.Common.{get_or, Option, None, Some, is_some, count_by, refl, sym, ap, subst, inl, inr}
use Rattle.std.proofs.lemmas.Bool.Decides.{eqb_tells}
use Rattle.iox_domain.specs.DomainPorts.Messages.{Message}
use Rattle.iox_domain.specs.DomainPorts.Ports.{connection_of}
use Rattle.iox_domain.specs.DomainPorts.declared.attached.Attached.{Attached}
use Rattle.iox_domain.specs.DomainPorts.declared.publisher_port.PublisherPort.{PublisherPort}
use Rattle.iox_domain.specs.DomainPorts.declared.subscriber_port.SubscriberPort.{SubscriberPort}
use Rattle.iox_lanes_machine.specs.LanesBase.declared.words.word.SlotWord.TheVariants.{Header, UserHeader, Payload}
use Rattle.iox_lanes_machine.specs.Made.{listed}
use Rattle.iox_lanes_machine.specs.World.{World}
use Rattle.iox_lanes_machine.specs.declared.found.Found.{Found}
use Rattle.iox_lanes_machine.specs.declared.found.Found.TheVariants as found
use Rattle.iox_lanes_machine.proofs.Ends.{some_is}
use Rattle.iox_lanes.specs.Behind.{behind_findings, behind_finding}
use Rattle.iox_lanes.specs.Holding.{reader_if}
use Rattle.iox_lanes.specs.Laid.{flat_listed, header_findings, history_findings, link_findings, message_findings, payload_findings}
use Rattle.iox_lanes.specs.Laid.{slot_in, waiting_findings, words_findings}
use Rattle.iox_lanes.specs.Ordered.{keys_behind, reader_behind, readers_behind, route_place, swap_behind}
use Rattle.iox_lanes.specs.Spelling.{Spelling}

-- each finding of a list is one of these
abbrev pub Each : (Found → Type 0) → List Found → Type 0
Each P [] = Unit {0}
Each P (f ∷ fs) = P f × Each P fs

pub each_both : (P : Found → Type 0) (fs gs : List Found) → Each P fs → Each P gs → Each P (fs ++ gs)
each_both P [] gs one other = other
each_both P (f ∷ fs) gs one other = (one.0, each_both P fs gs one.1 other)

pub each_listed : (P : Found → Type 0) (f : ℕ → Found) (count : ℕ) → ((at : ℕ) → at < count → P (f at)) → Each P (listed f count)
each_listed P f zero all = tt
each_listed P f (suc count) all = each_both P (listed f count) (f count ∷ [])
    (each_listed P f count (λ at below. all at (omega (arith, below)))) (all count (omega arith), tt)

pub each_flat : {X : Type 0} (P : Found → Type 0) (f : X → List Found) (xs : List X)
    → ((at : ℕ) (x : X) → slice_get xs at ≡ Some x → Each P (f x)) → Each P (flat_map f xs)
each_flat P f [] all = tt
each_flat P f (x ∷ xs) all = each_both P (f x) (flat_map f xs) (all zero x refl) (each_flat P f xs (λ at y there. all (suc at) y there))

pub each_flat_listed : (P : Found → Type 0) (f : ℕ → List Found) (count : ℕ) → ((at : ℕ) → at < count → Each P (f at))
    → Each P (flat_listed f count)
each_flat_listed P f zero all = tt
each_flat_listed P f (suc count) all
    = each_both P (flat_listed f count) (f count) (each_flat_listed P f count (λ at below. all at (omega (arith, below))))
    (all count (omega arith))

-- what each of them leaves, all do
pub each_leaves : (P : Found → Type 0) (Q : World → Type 0) → ((m : World) (f : Found) → P f → Q m → Q (behind_finding m f))
    → (fs : List Found) (m : World) → Each P fs → Q m → Q (behind_findings m fs)
unfolding behind_findings
each_leaves P Q leaves [] m all q = q
each_leaves P Q leaves (f ∷ fs) m all q = each_leaves P Q leaves fs (behind_finding m f) all.1 (leaves m f all.0 q)

-- all that is found of messages of a publisher is found of it
module _ {T U : Type 0} (spelling : Spelling T U) (P : Found → Type 0) where
  pub each_payload : (slot : ℕ) (values : List T)
      → ((word : ℕ) → word < spelling.payload_count → (value : T) → slice_get values 0 ≡ Some value
      → P (found.Held slot (Payload word) (slice_index (spelling.payload value) word)))
      → Each P (payload_findings spelling.payload spelling.payload_count slot values)
  each_payload slot [] all = tt
  each_payload slot (value ∷ rest) all
      = each_listed P (λ word. found.Held slot (Payload word) (slice_index (spelling.payload value) word)) spelling.payload_count
      (λ at below. all at below value refl)

  pub each_word : (slot node number elements : ℕ) (user_header : Option ℕ × U) (values : List T) → P (found.Held slot (Header 0) node)
      → P (found.Held slot (Header 1) number) → P (found.Held slot (Header 2) elements)
      → ((word : ℕ) → word < spelling.middle_count → P (found.Held slot (UserHeader word) (slice_index (spelling.middle user_header) word)))
      → ((word : ℕ) → word < spelling.payload_count → (value : T) → slice_get values 0 ≡ Some value
      → P (found.Held slot (Payload word) (slice_index (spelling.payload value) word)))
      → Each P (words_findings spelling slot node number elements user_header values)
  each_word slot node number elements user_header values one two three headed valued = (
    one,
    (
      two,
      (
        three,
        each_both P (header_findings spelling.middle spelling.middle_count slot user_header)
            (payload_findings spelling.payload spelling.payload_count slot values)
            (each_listed P (λ word. found.Held slot (UserHeader word) (slice_index (spelling.middle user_header) word))
            spelling.middle_count
            headed) (each_payload slot values valued),
      ),
    ),
  )

  module _ (place first : ℕ) (port : PublisherPort T U) where
    pub each_history : (messages : List (Message T U))
        → ((at : ℕ) (message : Message T U) → slice_get messages at ≡ Some message
        → Each P (message_findings spelling first port message))
        → ((slot : ℕ) → P (found.Newest place slot))
        → Each P (history_findings spelling place first port messages)
    each_history messages words newest =
        each_flat P (λ message. message_findings spelling first port message
        ++ found.Newest place (slot_in first message.slot) ∷ []) messages
        (λ at message there. each_both P (message_findings spelling first port message)
        (found.Newest place (slot_in first message.slot) ∷ [])
        (words at message there) (newest (slot_in first message.slot), tt))

    pub each_waiting : (other : ℕ) (messages : List (Message T U))
        → ((at : ℕ) (message : Message T U) → slice_get messages at ≡ Some message
        → Each P (message_findings spelling first port message))
        → ((slot : ℕ) → P (found.Waiting place other slot))
        → Each P (waiting_findings spelling place other first port messages)
    each_waiting other messages words waits =
        each_flat P (λ message. message_findings spelling first port message
        ++ found.Waiting place other (slot_in first message.slot) ∷ []) messages
        (λ at message there. each_both P (message_findings spelling first port message)
        (found.Waiting place other (slot_in first message.slot) ∷ [])
        (words at message there) (waits (slot_in first message.slot), tt))

    pub each_of : (tie : ℕ → ℕ) (count : ℕ)
        → ((at : ℕ) (message : Message T U) → slice_get port.sender.uses.history at ≡ Some message
        → Each P (message_findings spelling first port message))
        → ((other : ℕ) → other < count → (at : ℕ) (message : Message T U)
        → slice_get (connection_of (tie other) port).waiting at ≡ Some message
        → Each P (message_findings spelling first port message))
        → ((slot : ℕ) → P (found.Newest place slot)) → ((other slot : ℕ) → P (found.Waiting place other slot))
        → ((other messages : ℕ) → P (found.Buffer place other messages))
        → Each P (history_findings spelling place first port port.sender.uses.history)
        × Each P (flat_listed (λ other. link_findings spelling place other first port (tie other)) count)
    each_of tie count remembered waiting newest waits buffers = (
      each_history port.sender.uses.history remembered newest,
      each_flat_listed P (λ other. link_findings spelling place other first port (tie other)) count (λ other below. (
        buffers other (connection_of (tie other) port).limit,
        each_waiting other
            (connection_of (tie other) port).waiting (waiting other below) (waits other),
      )),
    )

-- what the order of a connection leaves, those of all connections do
module _ (Q : World → Type 0) (leaves : (m : World) (who one other : ℕ) → Q m → Q (behind_finding m (found.Swapped who one other)))
    (publishers : List ℕ) where
  swap_leaves : (subscriber to : ℕ) (m : World) (at : Option Attached) → Q m → Q (swap_behind publishers subscriber to m at)
  swap_leaves subscriber to m None q = q
  swap_leaves subscriber to m (Some attached) q
      = leaves m subscriber to (route_place m publishers attached.publisher (slice_get m.subscribers subscriber)) q

  keys_leave : (subscriber : ℕ) (values : List (Option Attached)) (m : World) (count : ℕ) → Q m
      → Q (keys_behind publishers subscriber values m count)
  keys_leave subscriber values m zero q = q
  keys_leave subscriber values m (suc count) q =
      swap_leaves subscriber (count_by is_some (take count values)) (keys_behind publishers subscriber values m count)
      (get_or values count None) (keys_leave subscriber values m count q)

  reader_leaves : (subscriber : ℕ) (m : World) (port : Option SubscriberPort) → Q m → Q (reader_behind publishers subscriber m port)
  reader_leaves subscriber m None q = q
  reader_leaves subscriber m (Some port) q = keys_leave subscriber port.connections.values m (length port.connections.values) q

  pub readers_leave : (readers : List (ℕ × SubscriberPort)) (subscribers : List ℕ) (m : World) (count : ℕ) → Q m
      → Q (readers_behind publishers readers subscribers m count)
  readers_leave readers subscribers m zero q = q
  readers_leave readers subscribers m (suc count) q =
      reader_leaves count (readers_behind publishers readers subscribers m count) (reader_if readers (slice_get subscribers count))
      (readers_leave readers subscribers m count q)

-- a finding is in a list
abbrev pub IsIn : Found → List Found → Type 0
IsIn f [] = ⊥
IsIn f (g ∷ gs) = (g ≡ f) ⊎ IsIn f gs

pub in_left : (f : Found) (fs gs : List Found) → IsIn f fs → IsIn f (fs ++ gs)
in_left f [] gs there = absurd there
in_left f (g ∷ fs) gs (inl same) = inl same
in_left f (g ∷ fs) gs (inr later) = inr (in_left f fs gs later)

pub in_right : (f : Found) (fs gs : List Found) → IsIn f gs → IsIn f (fs ++ gs)
in_right f [] gs there = there
in_right f (g ∷ fs) gs there = inr (in_right f fs gs there)

pub in_listed : (f : ℕ → Found) (count at : ℕ) → at < count → IsIn (f at) (listed f count)
in_listed f zero at below = absurd (omega (arith, below))
in_listed f (suc count) at below = elim (eqb_tells at count) [
  | inl same ↦ in_right (f at) (listed f count) (f count ∷ []) (inl (ap f (sym same.1)))
  | inr apart ↦ in_left (f at) (listed f count) (f count ∷ []) (in_listed f count at (omega (arith, below, apart.1)))
]

pub in_flat : {X : Type 0} (f : Found) (list : X → List Found) (xs : List X) (at : ℕ) (x : X) → slice_get xs at ≡ Some x
    → IsIn f (list x) → IsIn f (flat_map list xs)
in_flat f list [] at x there is = absurd (cc there)
in_flat f list (y ∷ ys) zero x there is = in_left f (list y) (flat_map list ys) (subst (λ z. IsIn f (list z)) (sym (some_is y x there)) is)
in_flat f list (y ∷ ys) (suc at) x there is = in_right f (list y) (flat_map list ys) (in_flat f list ys at x there is)

pub in_flat_listed : (f : Found) (list : ℕ → List Found) (count at : ℕ) → at < count → IsIn f (list at) → IsIn f (flat_listed list count)
in_flat_listed f list zero at below is = absurd (omega (arith, below))
in_flat_listed f list (suc count) at below is = elim (eqb_tells at count) [
  | inl same ↦ in_right f (flat_listed list count) (list count) (subst (λ (n : ℕ). IsIn f (list n)) same.1 is)
  | inr apart ↦ in_left f (flat_listed list count) (list count) (in_flat_listed f list count at (omega (arith, below, apart.1)) is)
]
