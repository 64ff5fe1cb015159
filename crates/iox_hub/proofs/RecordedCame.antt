-- Each sample that a program holds came, whatever else was asked since.
use Rattle.std.proofs.Common.{◌≡◌, ◌∙◌, ℕ, Bool, true, false, List, [], ◌∷◌, ◌++◌, length, Some, refl, sym, ap, subst, arith, append_assoc}
use Rattle.std.proofs.Common.{inl, inr, length-append}
use Rattle.std.proofs.lemmas.Bool.{cases_Bool, eqb-false, eqb-true}
use Rattle.std.specs.Global.{Vec}
use Rattle.std.specs.Prelude.{◌==◌}
use Rattle.iox_command.specs.declared.command.Command.{Command}
use Rattle.iox_command.specs.declared.command.Command.TheVariants as command
use Rattle.iox_command.specs.declared.reply.Reply.{Reply}
use Rattle.iox_command.specs.declared.reply.Reply.TheVariants as reply
use Rattle.iox_container.proofs.Telling.{lookup-removed, lookup-removed_other, put_others}
use Rattle.iox_container.specs.NumberTable.{NumberTable, Rises, inserted, removed, value_at}
use Rattle.iox_hub_commands.specs.Numbering.{removed_if}
use Rattle.iox_hub_commands.specs.Tables.{no_numbers}
use Rattle.iox_hub_commands.specs.declared.ports.made.Made.{Made}
use Rattle.iox_hub_commands.specs.declared.ports.made.MadeSample.{MadeSample}
use Rattle.iox_hub.specs.Recording.{HasCome, HaveTold}

pub told_none : {T : Type 0} → HaveTold {T = T} no_numbers [] []
told_none = record { long = refl; came = λ number held is. cc }

as_long : {T : Type 0} (asked : List (Command T)) (answers : List (Reply T)) (one : Command T) (answer : Reply T)
    → length answers ≡ length asked → length (answers ++ answer ∷ []) ≡ length (asked ++ one ∷ [])
as_long asked answers one answer long = omega (arith, long, length-append answers (answer ∷ []), length-append asked (one ∷ []))

module _ {T : Type 0} {asked : List (Command T)} {answers : List (Reply T)} where
  came_on : {number : ℕ} (one : Command T) (answer : Reply T) → HasCome number asked answers
      → HasCome number (asked ++ one ∷ []) (answers ++ answer ∷ [])
  came_on {number} one answer it = record {
    before = it.before;
    first = it.first;
    subscriber = it.subscriber;
    values = it.values;
    later = it.later ++ one ∷ [];
    told = it.told ++ answer ∷ [];
    long = it.long;
    are = ap (λ (all : List (Command T)). all ++ one ∷ []) it.are
        ∙ append_assoc it.before (command.Receive it.subscriber ∷ it.later) (one ∷ []);
    answered = ap (λ (all : List (Reply T)). all ++ answer ∷ []) it.answered
        ∙ append_assoc it.first (reply.Received number it.values ∷ it.told) (answer ∷ []);
  }

  -- one call more
  pub told_too : {samples : NumberTable MadeSample} (one : Command T) (answer : Reply T) → HaveTold samples asked answers
      → HaveTold samples (asked ++ one ∷ []) (answers ++ answer ∷ [])
  told_too one answer told = record {
    long = as_long asked answers one answer told.long;
    came = λ number held is. came_on one answer (told.came number held is);
  }

  -- a port that leaves, if it does, leaves the samples
  pub told_left : (left : Bool) (leaves : Made → Made) (made : Made) → ((it : Made) → (leaves it).samples ≡ it.samples) → (one : Command T)
      (answer : Reply T) → HaveTold made.samples asked answers
      → HaveTold (removed_if left leaves made).samples (asked ++ one ∷ []) (answers ++ answer ∷ [])
  told_left true leaves made same one answer told =
      subst (λ (samples : NumberTable MadeSample). HaveTold samples (asked ++ one ∷ []) (answers ++ answer ∷ [])) (sym (same made))
      (told_too one answer told)
  told_left false leaves made same one answer told = told_too one answer told

  -- a sample that comes goes by the next number
  pub told_received : {samples : NumberTable MadeSample} (subscriber : ℕ) (values : Vec T) (it : MadeSample)
      → HaveTold samples asked answers
      → HaveTold (inserted samples it) (asked ++ command.Receive subscriber ∷ []) (answers ++ reply.Received samples.next values ∷ [])
  told_received {samples} subscriber values it told = record {
    long = as_long asked answers (command.Receive subscriber) (reply.Received samples.next values) told.long;
    came = λ number held is. elim (cases_Bool (number == samples.next)) [
      | inl same ↦ subst (λ (n : ℕ). HasCome n (asked ++ command.Receive subscriber ∷ [])
          (answers ++ reply.Received samples.next values ∷ [])) (sym (eqb-true number samples.next same)) (record {
            before = asked;
            first = answers;
            subscriber = subscriber;
            values = values;
            later = [];
            told = [];
            long = told.long;
            are = refl;
            answered = refl;
          })
      | inr off ↦ came_on (command.Receive subscriber) (reply.Received samples.next values)
          (told.came number held (sym (put_others samples it number (eqb-false number samples.next off)) ∙ is))
    ];
  }

  -- a sample that is released goes by no number any longer
  pub told_released : {samples : NumberTable MadeSample} (sample : ℕ) (answer : Reply T) → Rises 1 samples.entries samples.next
      → HaveTold samples asked answers
      → HaveTold (removed samples sample) (asked ++ command.Release sample ∷ []) (answers ++ answer ∷ [])
  told_released {samples} sample answer rises told = record {
    long = as_long asked answers (command.Release sample) answer told.long;
    came = λ number held is. elim (cases_Bool (number == sample)) [
      | inl same ↦
          let gone = lookup-removed sample 1 samples.next samples.entries rises in
          let there = subst (λ (n : ℕ). value_at (removed samples sample) n ≡ Some held) (eqb-true number sample same) is in cc
      | inr off ↦ came_on (command.Release sample) answer
          (told.came number held (sym (lookup-removed_other sample number samples.entries (eqb-false number sample off)) ∙ is))
    ];
  }
