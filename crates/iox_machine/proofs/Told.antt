-- What a sample tells of its message stays until its release: one sample at most goes by a number.
use Rattle.std.proofs.Common.{◌≡◌, ◌≤◌, ◌+◌, ℕ, Bool, true, false, cond, ◌||◌, List, [], ◌∷◌, ◌++◌, Option, None, Some, refl, sym, ap}
use Rattle.std.proofs.Common.{subst, inl, inr, arith, ◌∙◌}
use Rattle.std.proofs.lemmas.Bool.{and_from, cases_Bool, eqb-true, eq-eqb, true≢false}
use Rattle.std.specs.List.{AllByRecursion, IsDistinct, list_any}
use Rattle.std.specs.Prelude.{◌==◌, ◌&&◌, find, flat_map, is_some, option_and_then, option_map, MatchOption}
use Rattle.iox_machine.specs.Choices.{Choices}
use Rattle.iox_machine.specs.Message.{Message, Sample}
use Rattle.iox_machine.specs.MessageLaws.{first_in, is_release_of}
use Rattle.iox_machine.specs.NumberLaws.{numbers_in}
use Rattle.iox_machine.specs.Run.{Runs, Step}
use Rattle.iox_machine.specs.SequenceLaws.{SequenceStays}
use Rattle.iox_machine.specs.Service.{Service}
use Rattle.iox_machine.proofs.Shorthands.{IsSkipped}
use Rattle.iox_machine.specs.State.{Made, State, counted, new_state, replaced}
use Rattle.iox_machine.specs.Table.{at, contains}
use Rattle.iox_machine.proofs.Cases.{by-option, never-some, same-some}
use Rattle.iox_machine.proofs.Counted.{numbers-name-one}
use Rattle.iox_machine.proofs.Held.{any-found}
use Rattle.iox_machine.proofs.HeldSteps.{AreOwned, IsThere, received-there, run-owned, run-there, step-stays}
use Rattle.iox_machine.proofs.Lists.{all-at, all-both, all-weaker}
use Rattle.iox_machine.proofs.OrderLaws.{all-behind}
use Rattle.iox_machine.proofs.Runs.{AnyMessage, AnyOptions, AreSound, Numbered, all-found, forgotten, made-so, received-number, rises}
use Rattle.iox_machine.proofs.Runs.{runs-numbered}
use Rattle.iox_machine.proofs.Sound.{SampleFits, Sound}
use Rattle.iox_machine.proofs.Steps.{step-sound}
use Rattle.iox_machine.proofs.Taken.{received-was-sent}
use Rattle.iox_command.specs.NegotiateBase.DescribeBase.declared.message_type.MessageTypeDetails.{MessageTypeDetails}
use Rattle.iox_command.specs.declared.command.Command.{Command}
use Rattle.iox_command.specs.declared.command.Command.TheVariants as command
use Rattle.iox_command.specs.declared.reply.Reply.{Reply}
use Rattle.iox_command.specs.declared.reply.Reply.TheVariants as reply

-- ---- one goes by a number at most

never-same : (one other : ℕ) → (one == other) ≡ false → one ≡ other → ⊥
never-same one other off is = true≢false (sym (eq-eqb one other is) ∙ off)

distinct-behind : (xs ys : List ℕ) → IsDistinct (λ one other. one == other) (xs ++ ys) → IsDistinct (λ one other. one == other) ys
unfolding IsDistinct
distinct-behind [] ys apart = apart
distinct-behind (x ∷ xs) ys apart = distinct-behind xs ys apart.1

all-front : (P : ℕ → Type 0) (xs ys : List ℕ) → AllByRecursion P (xs ++ ys) → AllByRecursion P xs
all-front P [] ys all = tt
all-front P (x ∷ xs) ys all = (all.0, all-front P xs ys all.1)

distinct-front : (xs ys : List ℕ) → IsDistinct (λ one other. one == other) (xs ++ ys) → IsDistinct (λ one other. one == other) xs
unfolding IsDistinct
distinct-front [] ys apart = tt
distinct-front (x ∷ xs) ys apart = (all-front (λ (y : ℕ). (x == y) ≡ false) xs ys apart.0, distinct-front xs ys apart.1)

never-again : (number : ℕ) (xs ys : List ℕ) → IsDistinct (λ one other. one == other) (xs ++ ys) → contains xs number ≡ true
    → AllByRecursion (λ (y : ℕ). y ≡ number → ⊥) ys
unfolding IsDistinct
never-again number [] ys apart is = absurd (true≢false (sym is))
never-again number (x ∷ xs) ys apart is = elim (cases_Bool (x == number)) [
  | inl same ↦ all-weaker (λ (y : ℕ). (x == y) ≡ false) (λ (y : ℕ). y ≡ number → ⊥)
      (λ y off so. never-same x y off (eqb-true x number same ∙ sym so)) ys (all-behind (λ (y : ℕ). (x == y) ≡ false) xs ys apart.0)
  | inr other ↦ never-again number xs ys apart.1 (sym (ap (λ (b : Bool). b || contains xs number) other) ∙ is)
]

module _ {V : Type 0} where
  table-none : (number : ℕ) (table : List (ℕ × V)) → at number table ≡ None → AllByRecursion (λ entry. entry.0 ≡ number → ⊥) table
  table-none number [] e = tt
  table-none number (entry ∷ table) e = here (entry.0 == number) refl e (table-none number table)
    where
      here : (b : Bool) → (entry.0 == number) ≡ b
          → option_map (λ (it : ℕ × V). it.1) (cond b (Some entry) (find (λ (it : ℕ × V). it.0 == number) table)) ≡ None
          → (at number table ≡ None → AllByRecursion (λ (it : ℕ × V). it.0 ≡ number → ⊥) table)
          → (entry.0 ≡ number → ⊥) × AllByRecursion (λ (it : ℕ × V). it.0 ≡ number → ⊥) table
      here true is e on = never-some entry.1 (sym e)
      here false off e on = (never-same entry.0 number off, on e)

  table-only : (number : ℕ) (v : V) (table : List (ℕ × V)) → IsDistinct (λ one other. one == other) (numbers_in table)
      → at number table ≡ Some v → AllByRecursion (λ entry. entry.0 ≡ number → entry.1 ≡ v) table
  unfolding IsDistinct
  table-only number v [] apart e = tt
  table-only number v (entry ∷ table) apart e = here (entry.0 == number) refl e (table-only number v table apart.1)
    where
      others : (rest : List (ℕ × V)) → entry.0 ≡ number → AllByRecursion (λ (n : ℕ). (entry.0 == n) ≡ false) (numbers_in rest)
          → AllByRecursion (λ (it : ℕ × V). it.0 ≡ number → it.1 ≡ v) rest
      others [] is all = tt
      others (it ∷ rest) is all = ((λ so. absurd (never-same entry.0 it.0 all.0 (is ∙ sym so))), others rest is all.1)

      here : (b : Bool) → (entry.0 == number) ≡ b
          → option_map (λ (it : ℕ × V). it.1) (cond b (Some entry) (find (λ (it : ℕ × V). it.0 == number) table)) ≡ Some v
          → (at number table ≡ Some v → AllByRecursion (λ (it : ℕ × V). it.0 ≡ number → it.1 ≡ v) table)
          → (entry.0 ≡ number → entry.1 ≡ v) × AllByRecursion (λ (it : ℕ × V). it.0 ≡ number → it.1 ≡ v) table
      here true is e on = ((λ so. same-some entry.1 v e), others table (eqb-true entry.0 number is) apart.0)
      here false off e on = ((λ so. absurd (never-same entry.0 number off so)), on e)

  contained : (number : ℕ) (v : V) (table : List (ℕ × V)) → at number table ≡ Some v → contains (numbers_in table) number ≡ true
  contained number v [] e = never-some v e
  contained number v (entry ∷ table) e = here (entry.0 == number) e (contained number v table)
    where
      here : (b : Bool) → option_map (λ (it : ℕ × V). it.1) (cond b (Some entry) (find (λ (it : ℕ × V). it.0 == number) table)) ≡ Some v
          → (at number table ≡ Some v → contains (numbers_in table) number ≡ true) → (b || contains (numbers_in table) number) ≡ true
      here true e on = refl
      here false e on = on e

module _ {T : Type 0} where
  -- the sample that is found is the only one of its number
  abbrev IsOnly : ℕ → Sample T → List (Service T) → Type 0
  IsOnly sample it services =
      AllByRecursion (λ service. AllByRecursion (λ entry. entry.0 ≡ sample → entry.1 ≡ it) service.samples) services

  none-in : (sample : ℕ) (it : Sample T) (service : Service T) (rest : List ℕ)
      → AllByRecursion (λ (n : ℕ). n ≡ sample → ⊥) (numbers_in service.samples ++ rest)
      → AllByRecursion (λ (entry : ℕ × Sample T). entry.0 ≡ sample → entry.1 ≡ it) service.samples
  none-in sample it service rest all = here service.samples all
    where
      here : (table : List (ℕ × Sample T)) → AllByRecursion (λ (n : ℕ). n ≡ sample → ⊥) (numbers_in table ++ rest)
          → AllByRecursion (λ (entry : ℕ × Sample T). entry.0 ≡ sample → entry.1 ≡ it) table
      here [] all = tt
      here (entry ∷ table) all = ((λ so. absurd (all.0 so)), here table all.1)

  none-at-all : (sample : ℕ) (it : Sample T) (services : List (Service T))
      → AllByRecursion (λ (n : ℕ). n ≡ sample → ⊥) (flat_map (λ (service : Service T). numbers_in service.samples) services)
      → IsOnly sample it services
  none-at-all sample it [] all = tt
  none-at-all sample it (service ∷ more) all = (
    none-in sample it service (flat_map (λ (other : Service T). numbers_in other.samples) more) all,
    none-at-all sample it more (all-behind (λ (n : ℕ). n ≡ sample → ⊥) (numbers_in service.samples)
        (flat_map (λ (other : Service T). numbers_in other.samples) more) all),
  )

  only-one : (sample : ℕ) (it : Sample T) (services : List (Service T))
      → IsDistinct (λ one other. one == other) (flat_map (λ (service : Service T). numbers_in service.samples) services)
      → option_and_then (λ (service : Service T). at sample service.samples)
      (find (λ (service : Service T). is_some (at sample service.samples)) services) ≡ Some it
      → IsOnly sample it services
  only-one sample it [] apart e = tt
  only-one sample it (service ∷ more) apart e =
      here (at sample service.samples) refl e
      (only-one sample it more (distinct-behind (numbers_in service.samples)
      (flat_map (λ (other : Service T). numbers_in other.samples) more) apart))
    where
      here : (o : Option (Sample T)) → at sample service.samples ≡ o
          → option_and_then (λ (other : Service T). at sample other.samples)
          (cond (is_some o) (Some service) (find (λ (other : Service T). is_some (at sample other.samples)) more)) ≡ Some it
          → (option_and_then (λ (other : Service T). at sample other.samples)
          (find (λ (other : Service T). is_some (at sample other.samples)) more) ≡ Some it → IsOnly sample it more)
          → IsOnly sample it (service ∷ more)
      here None none e on = (
        all-weaker (λ (entry : ℕ × Sample T). entry.0 ≡ sample → ⊥) (λ (entry : ℕ × Sample T). entry.0 ≡ sample → entry.1 ≡ it)
            (λ entry off so. absurd (off so)) service.samples (table-none sample service.samples none),
        on e,
      )
      here (Some one) there e on = (
        table-only sample it service.samples (distinct-front (numbers_in service.samples)
            (flat_map (λ (other : Service T). numbers_in other.samples) more) apart) e,
        none-at-all sample it more (never-again sample (numbers_in service.samples)
            (flat_map (λ (other : Service T). numbers_in other.samples) more) apart (contained sample one service.samples there)),
      )

module _ {T : Type 0} (types : MessageTypeDetails) (choices : Choices T) (buffer : ℕ) where
  -- a run, and one command more
  runs-last : (asked : List (Command T)) (old : State T) (answers : List (Reply T)) (mid : State T)
      → Runs types choices buffer asked old answers mid → (one : Command T) (answer : Reply T) (new : State T)
      → Step types choices buffer one mid answer new → Runs types choices buffer (asked ++ one ∷ []) old (answers ++ answer ∷ []) new
  runs-last [] old answers mid run one answer new h = (
    answer,
    new,
    [],
    subst (λ (state : State T). Step types choices buffer one state answer new) run.1 h,
    (refl, refl),
    ap (λ (l : List (Reply T)). l ++ answer ∷ []) run.0,
  )
  runs-last (first ∷ more) old answers mid run one answer new h = (
    run.0,
    run.1,
    run.2 ++ answer ∷ [],
    run.3,
    runs-last more run.1 run.2 mid run.4 one answer new h,
    ap (λ (l : List (Reply T)). l ++ answer ∷ []) run.5,
  )

  -- the sample of a number has this message
  abbrev Holds : ℕ → Message T → ℕ → Sample T → Type 0
  Holds sample message number one = number ≡ sample → one.message ≡ message

  runs-held : (sample : ℕ) (message : Message T) (asked : List (Command T)) (old : State T) (answers : List (Reply T)) (new : State T)
      → Runs types choices buffer asked old answers new → sample ≤ old.made.samples → AreSound AnyMessage (Holds sample message) old
      → AreSound AnyMessage (Holds sample message) new
  runs-held sample message [] old answers new run made all = subst (AreSound AnyMessage (Holds sample message)) (sym run.1) all
  runs-held sample message (one ∷ more) old answers new run made all =
      runs-held sample message more run.1 run.2 new run.4
      (under (rises types choices buffer one old run.0 run.1 run.3 (forgotten types choices buffer (Holds sample message) old all)))
      (step-sound AnyMessage (Holds sample message) AnyOptions types choices buffer one old run.0 run.1 (λ publisher it b. tt)
      (λ other found told same is. absurd (past is)) (λ number options came. tt) run.3 all).0
    where
      under : old.made.samples ≤ run.1.made.samples → sample ≤ run.1.made.samples
      under h = omega (arith, made, h)

      past : old.made.samples + 1 ≡ sample → ⊥
      past is = omega (arith, made, is)

pub sequence-stays : {T : Type 0} (choices : Choices T) → SequenceStays choices
sequence-stays {T} choices types buffer asked answers old run subscriber sample values mid received =
    let sent = received-was-sent choices types buffer asked answers old run subscriber sample values mid received in
    let it : Sample T = record { publisher = sent.0; subscriber = subscriber; message = sent.2 } in (
      sent.0,
      sent.2,
      ap (λ (o : Option (Sample T)). option_and_then
          (λ (one : Sample T). cond ((subscriber == subscriber) && (one.publisher == sent.0)) (Some one.message) None) o) sent.5.2
          ∙ ap (λ (b : Bool). cond b (Some sent.2) None)
          (and_from (subscriber == subscriber) (sent.0 == sent.0) (eq-eqb subscriber subscriber refl) (eq-eqb sent.0 sent.0 refl)),
      (λ meanwhile told later ran held answer new h. tells it sent.5.2 meanwhile told later ran held answer new h),
    )
  where
    within : (count : ℕ) → count ≡ old.made.samples + 1 → sample ≡ old.made.samples + 1 → sample ≤ count
    within count made next = omega (arith, made, next)

    tells : (it : Sample T) → first_in (λ (service : Service T). at sample service.samples) mid ≡ Some it
        → (meanwhile : List (Command T)) (told : List (Reply T)) (later : State T)
        → Runs types choices buffer meanwhile mid told later → list_any (is_release_of sample) meanwhile ≡ false
        → (answer : Reply T) (new : State T) → Step types choices buffer (command.Sequence sample) later answer new
        → answer ≡ reply.Sequence it.message.sequence
    tells it first meanwhile told later ran held answer new h =
        let whole : Runs types choices buffer (asked ++ command.Receive subscriber ∷ []) new_state
        (answers ++ reply.Received sample values ∷ []) mid =
        runs-last types choices buffer asked new_state answers old run (command.Receive subscriber) (reply.Received sample values) mid
        received in
        let only : IsOnly sample it mid.services =
        only-one sample it mid.services (numbers-name-one choices types buffer (asked ++ command.Receive subscriber ∷ [])
        (answers ++ reply.Received sample values ∷ []) mid whole).4.0 first in
        let numbered : AreSound AnyMessage (Numbered types choices buffer mid) mid =
        runs-numbered types choices buffer (asked ++ command.Receive subscriber ∷ []) new_state
        (answers ++ reply.Received sample values ∷ []) mid whole tt in
        let holds : AreSound AnyMessage (Holds types choices buffer sample it.message) mid =
        all-both (Sound AnyMessage (Numbered types choices buffer mid) AnyOptions)
        (λ (service : Service T). AllByRecursion (λ (entry : ℕ × Sample T). entry.0 ≡ sample → entry.1 ≡ it) service.samples)
        (Sound AnyMessage (Holds types choices buffer sample it.message) AnyOptions)
        (λ service sound its. (
          sound.0,
          sound.1,
          sound.2,
          all-both
              (λ (entry : ℕ × Sample T). SampleFits AnyMessage (Numbered types choices buffer mid) AnyOptions entry.0 entry.1)
              (λ (entry : ℕ × Sample T). entry.0 ≡ sample → entry.1 ≡ it)
              (λ (entry : ℕ × Sample T). SampleFits AnyMessage (Holds types choices buffer sample it.message) AnyOptions entry.0 entry.1)
              (λ entry fits so. ((λ is. ap (λ (one : Sample T). one.message) (so is)), tt)) service.samples sound.3 its,
        )) mid.services numbered only
        in
        let next : sample ≡ old.made.samples + 1 =
        received-number types choices buffer asked answers old run subscriber sample values mid received in
        let made : mid.made.samples ≡ old.made.samples + 1 =
        ap (λ (it : Made). it.samples)
        (made-so types choices buffer (command.Receive subscriber) old (reply.Received sample values) mid received
        (forgotten types choices buffer (Numbered types choices buffer old) old
        (runs-numbered types choices buffer asked new_state answers old run tt))) in
        let owned : AreOwned sample old = run-owned sample types choices buffer asked new_state answers old run tt in
        let there : IsThere sample later =
        run-there sample types choices buffer meanwhile mid told later ran held
        (step-stays sample types choices buffer (command.Receive subscriber) old (reply.Received sample values) mid received owned).0
        (received-there choices types buffer subscriber sample old values mid received next) in
        let end : AreSound AnyMessage (Holds types choices buffer sample it.message) later =
        runs-held types choices buffer sample it.message meanwhile mid told later ran (within mid.made.samples made next) holds in
        elim (by-option (find (λ (service : Service T). is_some (at sample service.samples)) later.services) (IsSkipped later answer new)
        (λ service. (after : Service T) × MatchOption (at sample service.samples) ⊥
        (λ one. (answer ≡ reply.Sequence one.message.sequence) × (after ≡ service))
        × (new ≡ record later {
          made = counted answer later.made;
          services = replaced (λ (other : Service T). is_some (at sample other.samples)) after later.services;
        })) h) [
          | inl w ↦ absurd (any-found (λ (service : Service T). is_some (at sample service.samples)) later.services there w.0)
          | inr w ↦ elim (by-option (at sample w.0.samples) ⊥
              (λ one. (answer ≡ reply.Sequence one.message.sequence) × (w.2.0 ≡ w.0)) w.2.1) [
                | inl v ↦ absurd v.1
                | inr v ↦ v.2.0
                    ∙ ap (λ (one : Message T). reply.Sequence one.sequence)
                    ((all-at (SampleFits AnyMessage (Holds types choices buffer sample it.message) AnyOptions) sample v.0 w.0.samples v.1
                    (all-found (Sound AnyMessage (Holds types choices buffer sample it.message) AnyOptions)
                    (λ (other : Service T). is_some (at sample other.samples)) later.services w.0 w.1 end).3).0 refl)
              ]
        ]
