-- The names that commands ask for, and how many steps they name.
use Rattle.std.proofs.Common.{◌≡◌, ℕ, ◌+◌, suc, List, [], ◌∷◌, ◌++◌, refl, ap, arith}
use Rattle.std.specs.List.{AllByRecursion, IsAmong}
use Rattle.iox_command.specs.declared.command.Command.{Command}
use Rattle.iox_command.specs.declared.command.Command.TheVariants as command
use Rattle.iox_hub_machine.specs.RunLaws.{AsksAmong, all_asked, names_in}

first_among : (name : List ℕ) (names : List (List ℕ)) → IsAmong (name ∷ names) name
first_among name names = (0, (omega arith, refl))

later_among : (other name : List ℕ) (names : List (List ℕ)) → IsAmong names name → IsAmong (other ∷ names) name
later_among other name names (place, (within, is)) = (suc place, (omega (arith, within), is))

module _ {T : Type 0} where
  its_own : (asked : Command T) (more : List (Command T)) → AsksAmong (names_in (asked ∷ more)) asked
  its_own (command.Create node name options attributes steps) more = first_among name (names_in more)
  its_own (command.Open node name options required steps) more = first_among name (names_in more)
  its_own (command.OpenOrCreate node name options required steps) more = first_among name (names_in more)
  its_own (command.Foreign pattern name steps) more = first_among name (names_in more)
  its_own other more = tt

  wider : (asked : Command T) (more : List (Command T)) (name : List ℕ) → IsAmong (names_in more) name
      → IsAmong (names_in (asked ∷ more)) name
  wider (command.Create node other options attributes steps) more name among = later_among other name (names_in more) among
  wider (command.Open node other options required steps) more name among = later_among other name (names_in more) among
  wider (command.OpenOrCreate node other options required steps) more name among = later_among other name (names_in more) among
  wider (command.Foreign pattern other steps) more name among = later_among other name (names_in more) among
  wider other more name among = among

  asks_wider : (one asked : Command T) (more : List (Command T)) → AsksAmong (names_in more) asked
      → AsksAmong (names_in (one ∷ more)) asked
  asks_wider one (command.Create node name options attributes steps) more among = wider one more name among
  asks_wider one (command.Open node name options required steps) more among = wider one more name among
  asks_wider one (command.OpenOrCreate node name options required steps) more among = wider one more name among
  asks_wider one (command.Foreign pattern name steps) more among = wider one more name among
  asks_wider one other more among = tt

  all_wider : (one : Command T) (commands more : List (Command T)) → AllByRecursion (AsksAmong (names_in more)) commands
      → AllByRecursion (AsksAmong (names_in (one ∷ more))) commands
  all_wider one [] more all = tt
  all_wider one (asked ∷ commands) more all = (asks_wider one asked more all.0, all_wider one commands more all.1)

  -- the names of commands are those for which they ask
  pub all_among : (commands : List (Command T)) → AllByRecursion (AsksAmong (names_in commands)) commands
  all_among [] = tt
  all_among (asked ∷ more) = (its_own asked more, all_wider asked more more (all_among more))

  -- to read a sample asks for no name
  pub names_read : (commands : List (Command T)) (sample : ℕ) → names_in (commands ++ command.Read sample ∷ []) ≡ names_in commands
  names_read [] sample = refl
  names_read (command.Create node name options attributes steps ∷ more) sample =
      ap (λ (names : List (List ℕ)). name ∷ names) (names_read more sample)
  names_read (command.Open node name options required steps ∷ more) sample =
      ap (λ (names : List (List ℕ)). name ∷ names) (names_read more sample)
  names_read (command.OpenOrCreate node name options required steps ∷ more) sample =
      ap (λ (names : List (List ℕ)). name ∷ names) (names_read more sample)
  names_read (command.Foreign pattern name steps ∷ more) sample = ap (λ (names : List (List ℕ)). name ∷ names) (names_read more sample)
  names_read (other ∷ more) sample = names_read more sample

  pub both_asked : (first rest : List (Command T)) → all_asked (first ++ rest) ≡ all_asked first + all_asked rest
  both_asked [] rest = omega arith
  both_asked (asked ∷ first) rest = let both = both_asked first rest in omega (arith, both)

  pub both_all : (P : Command T → Type 0) (first rest : List (Command T)) → AllByRecursion P (first ++ rest)
      → AllByRecursion P first × AllByRecursion P rest
  both_all P [] rest all = (tt, all)
  both_all P (asked ∷ first) rest all = let (before, behind) = both_all P first rest all.1 in ((all.0, before), behind)
