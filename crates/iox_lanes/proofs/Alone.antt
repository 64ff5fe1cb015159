-- Messages of a publisher that are alone in their slots.
use Rattle.std.proofs.Common.{ℕ, ◌≡◌, ◌+◌, ◌<◌, List, map, slice_get, Option, Some, option_map, sym, ap, subst, ◌∙◌, inl, inr}
use Rattle.std.proofs.lemmas.Option.{slice_get-map}
use Rattle.iox_domain.specs.DomainPorts.Messages.{Message}
use Rattle.iox_domain.specs.DomainPorts.Ports.{connection_of}
use Rattle.iox_domain.specs.DomainPorts.Publishers.{port_of}
use Rattle.iox_domain.specs.DomainPorts.declared.publisher_port.PublisherPort.{PublisherPort}
use Rattle.iox_domain.specs.declared.ports.service_ports.ServicePorts.{ServicePorts}
use Rattle.iox_lanes_machine.proofs.Ends.{some_is}
use Rattle.iox_lanes.specs.Alone.{HasOne, IsAlone, IsMessageOf, KeepAloneAt, KeepsAlone}

abbrev message_in : {T U : Type 0} → ℕ → Option ℕ → ℕ → U → List T → Message T U
message_in slot sequence elements user_header values = record {
  slot = slot;
  sequence = sequence;
  elements = elements;
  user_header = user_header;
  values = values;
}

same_message : {T U : Type 0} (message : Message T U) (slot : ℕ) (sequence : Option ℕ) (elements : ℕ) (user_header : U) (values : List T)
    → message.slot ≡ slot → sequence ≡ message.sequence → elements ≡ message.elements → user_header ≡ message.user_header
    → values ≡ message.values → message ≡ message_in slot sequence elements user_header values
same_message message slot sequence elements user_header values at numbered many own said =
    ap (λ s. message_in s message.sequence message.elements message.user_header message.values) at
    ∙ ap (λ n. message_in slot n message.elements message.user_header message.values) (sym numbered)
    ∙ ap (λ e. message_in slot sequence e message.user_header message.values) (sym many)
    ∙ ap (λ u. message_in slot sequence elements u message.values) (sym own)
    ∙ ap (message_in slot sequence elements user_header) (sym said)

-- the messages in a slot whose number, elements, user header and values these are, are one
pub has_one : {T U : Type 0} (port : PublisherPort T U) (slot : ℕ) (sequence : Option ℕ) (elements : ℕ) (user_header : U) (values : List T)
    → ((at : ℕ) (message : Message T U) → slice_get port.sender.uses.history at ≡ Some message → message.slot ≡ slot
    → sequence ≡ message.sequence)
    → ((index at : ℕ) (message : Message T U) → slice_get (connection_of index port).waiting at ≡ Some message → message.slot ≡ slot
    → sequence ≡ message.sequence)
    → ((at : ℕ) (message : Message T U) → slice_get port.sender.uses.history at ≡ Some message → message.slot ≡ slot
    → elements ≡ message.elements)
    → ((index at : ℕ) (message : Message T U) → slice_get (connection_of index port).waiting at ≡ Some message → message.slot ≡ slot
    → elements ≡ message.elements)
    → ((at : ℕ) (message : Message T U) → slice_get port.sender.uses.history at ≡ Some message → message.slot ≡ slot
    → user_header ≡ message.user_header)
    → ((index at : ℕ) (message : Message T U) → slice_get (connection_of index port).waiting at ≡ Some message → message.slot ≡ slot
    → user_header ≡ message.user_header)
    → ((at : ℕ) (message : Message T U) → slice_get port.sender.uses.history at ≡ Some message → message.slot ≡ slot
    → values ≡ message.values)
    → ((index at : ℕ) (message : Message T U) → slice_get (connection_of index port).waiting at ≡ Some message → message.slot ≡ slot
    → values ≡ message.values) → HasOne port slot
has_one {T} {U} port slot sequence elements user_header values kept_number number kept_many many kept_own own kept_said said one other
    of_one of_other same equal
    = is one of_one same ∙ sym (is other of_other equal)
  where
    is : (message : Message T U) → IsMessageOf port message → message.slot ≡ slot
        → message ≡ message_in slot sequence elements user_header values
    is message (inl (at, there)) here =
        same_message message slot sequence elements user_header values here (kept_number at message there here)
        (kept_many at message there here) (kept_own at message there here) (kept_said at message there here)
    is message (inr (index, at, there)) here =
        same_message message slot sequence elements user_header values here (number index at message there here)
        (many index at message there here) (own index at message there here) (said index at message there here)

-- so the message that has it is alone
pub alone_at : {T U : Type 0} (port : PublisherPort T U) (messages : List (Message T U)) (at slot : ℕ) (message : Message T U)
    → slice_get (map (λ message. message.slot) messages) at ≡ Some slot
    → slot < port.sender.uses.first + port.sender.uses.size → HasOne port slot → slice_get messages at ≡ Some message → IsAlone port message
alone_at port messages at slot message is inside one there =
    let same : message.slot ≡ slot = some_is message.slot slot
    (sym (slice_get-map (λ message. message.slot) messages at ∙ ap (option_map (λ message. message.slot)) there) ∙ is) in
    record {
      inside = subst (λ n. n < port.sender.uses.first + port.sender.uses.size) (sym same) inside;
      only
          = subst (HasOne port) (sym same) one;
    }

-- and a publisher that keeps its messages alone is the one of its number
pub keeps_at : {T U : Type 0} (ports : ServicePorts T U) (publishers subscribers : List ℕ) (place number : ℕ) (port : PublisherPort T U)
    → slice_get publishers place ≡ Some number
    → port_of number ports.publishers ≡ Some port → KeepsAlone ports.subscribers subscribers port
    → KeepAloneAt ports publishers subscribers place
keeps_at ports publishers subscribers place number port listed found keeps other own there is =
    let same : number ≡ other = some_is number other (sym listed ∙ there) in
    subst (KeepsAlone ports.subscribers subscribers) (some_is port own (sym found ∙ ap (λ n. port_of n ports.publishers) same ∙ is)) keeps
