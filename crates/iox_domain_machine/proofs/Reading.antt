-- A sample is read, of a domain and of the machine.
use Rattle.std.proofs.Common.{◌≡◌, ◌<◌, ◌+◌, ◌∷◌, [], ◌&&◌, ℕ, Bool, true, false, cond, List, map, Option, Some, refl, sym, ap, subst}
use Rattle.std.proofs.Common.{◌∙◌, arith}
use Rattle.std.proofs.Math.Logic.{⊎_elim}
use Rattle.std.proofs.lemmas.Bool.{eq-eqb}
use Rattle.std.proofs.lemmas.Bool.Decides.{eqb_tells}
use Rattle.std.specs.Global.{Vec}
use Rattle.std.specs.Option.{option_map_or}
use Rattle.std.specs.Prelude.{filter, find, option_and_then, option_map, ◌==◌}
use Rattle.std.specs.Vec.{vec_items}
use Rattle.iox_command.specs.declared.reply.Reply.{Reply}
use Rattle.iox_command.specs.declared.reply.Reply.TheVariants as reply
use Rattle.iox_domain.proofs.DomainSlots.Counts.{one, one_same, times_cons}
use Rattle.iox_domain.specs.DomainPorts.Messages.{Message}
use Rattle.iox_domain.specs.DomainPorts.Publishers.{connection_in}
use Rattle.iox_domain.specs.DomainPorts.declared.attached.Taken.{Taken}
use Rattle.iox_domain.specs.DomainSlots.Counting.{times}
use Rattle.iox_domain.specs.Reading.{sample_in}
use Rattle.iox_domain.specs.declared.ports.service_ports.ServicePorts.{ServicePorts}
use Rattle.iox_domain_machine.specs.Laws.{ReadMatches, SequenceMatches}
use Rattle.iox_domain_machine.specs.Naming.{Naming}
use Rattle.iox_domain_machine.specs.Standing.{StandsFor}
use Rattle.iox_domain_machine.specs.Tables.{LentSlot, sample_as, slots_held_of}
use Rattle.iox_domain_machine.proofs.Alone.{alone_does}
use Rattle.iox_domain_machine.proofs.Found.{at_mapped, at_head, at_behind, same_some, never_some}
use Rattle.iox_domain_machine.proofs.Kept.{sample_by}
use Rattle.iox_domain_machine.proofs.Loans.{unlike}
use Rattle.iox_machine.specs.Choices.{Choices}
use Rattle.iox_machine.specs.Message.{Sample}
use Rattle.iox_machine.specs.Service.{Service}
use Rattle.iox_machine.specs.Table.{at}

-- whether a sample is of this connection
abbrev pub is_of : Taken → Taken → Bool
is_of taken other = (other.publisher == taken.publisher) && (other.index == taken.index)

counts_by : (taken : Taken) (b : Bool) (entry : ℕ × Taken) (more : List (ℕ × Taken))
    → times taken.slot (map (λ (it : ℕ × Taken). it.1.slot) (cond b (entry ∷ more) more))
    ≡ cond b (one taken.slot entry.1.slot) 0 + times taken.slot (map (λ (it : ℕ × Taken). it.1.slot) more)
counts_by taken true entry more = times_cons taken.slot entry.1.slot (map (λ (it : ℕ × Taken). it.1.slot) more)
counts_by taken false entry more = omega arith

pub counts_cons : (taken : Taken) (entry : ℕ × Taken) (held : List (ℕ × Taken))
    → times taken.slot (slots_held_of taken.publisher taken.index (entry ∷ held))
    ≡ cond (is_of taken entry.1) (one taken.slot entry.1.slot) 0 + times taken.slot (slots_held_of taken.publisher taken.index held)
counts_cons taken entry held = counts_by taken (is_of taken entry.1) entry (filter (λ (it : ℕ × Taken). is_of taken it.1) held)

pub counts_itself : (taken : Taken) → cond (is_of taken taken) (one taken.slot taken.slot) 0 ≡ 1
counts_itself taken =
    ap (λ b. cond (b && (taken.index == taken.index)) (one taken.slot taken.slot) 0) (eq-eqb taken.publisher taken.publisher refl)
    ∙ ap (λ b. cond b (one taken.slot taken.slot) 0) (eq-eqb taken.index taken.index refl) ∙ one_same taken.slot

-- a sample that goes by a number is borrowed
pub held_counts : (number : ℕ) (taken : Taken) (held : List (ℕ × Taken)) → at number held ≡ Some taken
    → 0 < times taken.slot (slots_held_of taken.publisher taken.index held)
held_counts number taken [] is = never_some taken is
held_counts number taken (entry ∷ held) is = ⊎_elim
    (λ same.
    let it : entry.1 ≡ taken = same_some entry.1 taken (sym (at_head number entry held same.0) ∙ is) in
    let counted = ap (λ (other : Taken). cond (is_of taken other) (one taken.slot other.slot) 0) it ∙ counts_itself taken in
    omega (arith, counts_cons taken entry held, counted))
    (λ other. let rest = held_counts number taken held (sym (at_behind number entry held other.0)
    ∙ is) in omega (arith, counts_cons taken entry held, rest))
    (eqb_tells entry.0 number)

-- and so it is there
pub borrowed_there : {T U : Type 0} (slot : ℕ) (messages : List (Message T U))
    → 0 < times slot (map (λ (message : Message T U). message.slot) messages)
    → (message : Message T U) × (find (λ (message : Message T U). message.slot == slot) messages ≡ Some message)
borrowed_there slot [] is = absurd (omega (arith, is))
borrowed_there {T} {U} slot (message ∷ messages) is = ⊎_elim
    (λ same. (message, ap (λ b. cond b (Some message) (find (λ (message : Message T U). message.slot == slot) messages)) same.0))
    (λ other.
    let none : one slot message.slot ≡ 0 = ap (λ b. cond b 1 0) (unlike slot message.slot other.1) in
    let rest = borrowed_there slot messages (omega (
      arith,
      is,
      times_cons slot message.slot (map (λ
          (message : Message T U). message.slot) messages),
      none,
    )) in
    (rest.0, ap (λ b. cond b (Some message) (find (λ (message : Message T U). message.slot == slot) messages)) other.0 ∙ rest.1))
    (eqb_tells message.slot slot)

module _ {T U : Type 0} (names : Naming) (lent : List (ℕ × LentSlot)) (held : List (ℕ × Taken)) (buffer : ℕ) (ports : ServicePorts T U)
    (service : Service T) (sample : ℕ) (taken : Taken) (stands : StandsFor names lent held buffer ports service)
    (held_there : at sample held ≡ Some taken) where
  -- the message of a sample that goes by a number
  pub message_there : (message : Message T U) × (sample_in taken ports ≡ Some message)
  message_there =
      let borrowed = (connection_in taken.publisher taken.index ports.publishers).borrowed in
      let found = borrowed_there taken.slot borrowed
      (subst (λ (slots : List ℕ). 0 < times taken.slot slots) (stands.samples.all taken.publisher taken.index)
      (held_counts sample taken held held_there)) in
      (found.0, sample_by taken ports ∙ found.1)

  -- and the machine's sample
  pub sample_there : at sample service.samples ≡ Some (sample_as names ports taken)
  sample_there =
      ap (λ samples. at sample samples) stands.samples.same ∙ at_mapped (sample_as names ports) sample held
      ∙ ap (option_map (sample_as names ports)) held_there

pub read_matches : (T U : Type 0) (choices : Choices T) → ReadMatches T U choices
read_matches T U choices types buffer names lent held ports service state sample taken stands held_there =
    let found = message_there names lent held buffer ports service sample taken stands held_there in
    let same : found.0.values ≡ (sample_as names ports taken).message.values =
    sym (ap (λ (found : Option (Message T U)). option_map_or (λ (one : Message T U). one.values) found []) found.1) in (
      found.0,
      found.1,
      λ values are_values. (
        service,
        alone_does (λ (one : Service T). at sample one.samples)
            (λ (one : Sample T) (before : Service T) (answered : Reply T)
            (after : Service T). (read : Vec T) × (vec_items read ≡ one.message.values) × (answered ≡ reply.Values read) × (after ≡ before))
            state service service (reply.Values values) (sample_as names ports taken)
            (sample_there names lent held buffer ports service sample taken stands held_there)
            (values, are_values ∙ same, refl, refl),
        stands,
      ),
    )

pub sequence_matches : (T U : Type 0) (choices : Choices T) → SequenceMatches T U choices
sequence_matches T U choices types buffer names lent held ports service state sample taken stands held_there =
    let found = message_there names lent held buffer ports service sample taken stands held_there in
    let same : found.0.sequence ≡ (sample_as names ports taken).message.sequence =
    sym (ap (option_and_then (λ (one : Message T U). one.sequence)) found.1) in (
      found.0,
      found.1,
      (
        service,
        alone_does (λ (one : Service T). at sample one.samples)
            (λ (one : Sample T) (before : Service T) (answered : Reply T)
            (after : Service T). (answered ≡ reply.Sequence one.message.sequence) × (after ≡ before))
            state service service (reply.Sequence found.0.sequence) (sample_as names ports taken)
            (sample_there names lent held buffer ports service sample taken stands held_there)
            (ap (λ (number : Option ℕ). reply.Sequence number) same, refl),
        stands,
      ),
    )
