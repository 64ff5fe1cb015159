use Rattle.std.proofs.Common.{◌∷◌, List, [], arith, subst, sym, ℕ}
use Rattle.iox_command.specs.declared.command.Command.TheVariants as command
use Rattle.iox_hub.proofs.AskedNames.{both_asked, names_read}
use Rattle.iox_negotiate_machine.specs.Laws.{HaveOwnHashes}
use Rattle.iox_hub.proofs.recorded.laws.reads_are_followed.Goals as goal

pub returns : goal.returns
returns g c = λ handed calls sample followed few. let (decides, answers, own, fewer, fit) = followed in
    let both = both_asked calls.asked (command.Read sample ∷ []) in (
      decides,
      answers,
      subst (λ (names : List (List ℕ)). HaveOwnHashes names) (sym (names_read calls.asked sample)) own,
      omega (arith, few, both),
      fit,
    )
