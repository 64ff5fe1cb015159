-- Which commands are of ports that there are.
use Rattle.std.proofs.Common.{◌≡◌, ◌⊎◌, inl, inr, ◌≤◌, ℕ, List, [], ◌∷◌, Option, None, Some, IfSome, length, refl, cond, true, false}
use Rattle.std.proofs.Common.{Bool, sym, ap, ◌∙◌}
use Rattle.std.specs.Option.{option_map}
use Rattle.iox_command.specs.Ports.{command_of}
use Rattle.iox_command.specs.Patterns.{pattern_of}
use Rattle.iox_command.specs.declared.command.Command.{Command}
use Rattle.iox_command.specs.declared.command.Command.TheVariants as command
use Rattle.iox_command.specs.declared.ports.port_command.PortCommand.{PortCommand}
use Rattle.iox_command.specs.declared.ports.port_command.PortCommand.TheVariants as port
use Rattle.iox_command.specs.declared.step.StepBefore.{StepBefore}
use Rattle.iox_line.specs.declared.services.service.NamedService.{NamedService}
use Rattle.iox_line.specs.ServicesReading.{pattern_named, name_of, service_of}
use Rattle.iox_command.specs.DescribeBase.declared.pattern.MessagingPattern.{MessagingPattern}
use Rattle.iox_line.specs.AttributesReading.{specifier_of, verifier_of}
use Rattle.iox_line.specs.Words.{no_words, words_of}
use Rattle.iox_line.specs.StepsReading.{steps_of, lists_of}
use Rattle.iox_line.specs.declared.verb.Verb.{Verb}
use Rattle.iox_line.specs.declared.verb.Verb.TheVariants as verb
use Rattle.iox_line.specs.declared.verb.ServiceVerb.{ServiceVerb}
use Rattle.iox_line.specs.declared.verb.ServiceVerb.TheVariants as service
use Rattle.iox_line.specs.Reading.{bind, both, only, if_of_port, publisher_command, subscriber_command, publisher_of, subscriber_of}
use Rattle.iox_line.specs.Reading.{foreign_parts, foreign_command, of_service, of_verb, of_read, of_words}
use Rattle.iox_line.specs.Numbers.{tagged}
use Rattle.iox_line.specs.Spelling.{Spells}
use Rattle.iox_line.specs.Verbs.{verb_of, service_verb_of}
use Rattle.iox_line.proofs.LineLemmas.{line_sound, line_complete}

-- a command of a port that there is stays
pub port_stays : (c : PortCommand ℕ) → if_of_port (Some (command_of c)) ≡ Some (command_of c)
port_stays (port.Loan publisher length) = refl
port_stays (port.LoanUninit publisher length) = refl
port_stays (port.Set loan place value) = refl
port_stays (port.Fill loan values) = refl
port_stays (port.Drop loan) = refl
port_stays (port.Send loan) = refl
port_stays (port.Put publisher values) = refl
port_stays (port.Retry publisher nanoseconds) = refl
port_stays (port.GiveUp publisher) = refl
port_stays (port.Receive subscriber) = refl
port_stays (port.Read sample) = refl
port_stays (port.Sequence sample) = refl
port_stays (port.Release sample) = refl
port_stays (port.Update number) = refl
port_stays (port.Leave number) = refl
port_stays (port.Has subscriber) = refl

-- what stays was there
pub stayed : (o : Option (Command ℕ)) (c : Command ℕ) → if_of_port o ≡ Some c → o ≡ Some c
stayed None c h = h
stayed (Some command.Node) c h = cc
stayed (Some (command.Create n a o t s)) c h = cc
stayed (Some (command.Open n a o t s)) c h = cc
stayed (Some (command.OpenOrCreate n a o t s)) c h = cc
stayed (Some (command.Foreign p a s)) c h = cc
stayed (Some (command.Close n)) c h = cc
stayed (Some (command.Publisher n o)) c h = cc
stayed (Some (command.Subscriber n o)) c h = cc
stayed (Some (command.Loan n m)) c h = h
stayed (Some (command.LoanUninit n m)) c h = h
stayed (Some (command.Set n m k)) c h = h
stayed (Some (command.Fill n ns)) c h = h
stayed (Some (command.Drop n)) c h = h
stayed (Some (command.Send n)) c h = h
stayed (Some (command.Put n ns)) c h = h
stayed (Some (command.Retry n m)) c h = h
stayed (Some (command.GiveUp n)) c h = h
stayed (Some (command.Receive n)) c h = h
stayed (Some (command.Read n)) c h = h
stayed (Some (command.Sequence n)) c h = h
stayed (Some (command.Release n)) c h = h
stayed (Some (command.Update p)) c h = h
stayed (Some (command.Leave p)) c h = h
stayed (Some (command.Has n)) c h = h

-- where no made one stays, none does
no_port : {A : Type 0} (make : A → Command ℕ) → ((a : A) → if_of_port (Some (make a)) ≡ None) → (o : Option A)
    → if_of_port (option_map make o) ≡ None
no_port make none None = refl
no_port make none (Some a) = none a

no_port_node : (b : Bool) → if_of_port (cond b (Some command.Node) None) ≡ None
no_port_node true = refl
no_port_node false = refl

no_port_publisher : (ws : List (List ℕ)) → if_of_port (publisher_command ws) ≡ None
no_port_publisher [] = refl
no_port_publisher (w ∷ ws) = no_port (λ p. command.Publisher p.0 p.1) (λ p. refl) (both (tagged 102 w) (publisher_of ws))

no_port_subscriber : (ws : List (List ℕ)) → if_of_port (subscriber_command ws) ≡ None
no_port_subscriber [] = refl
no_port_subscriber (w ∷ ws) = no_port (λ p. command.Subscriber p.0 p.1) (λ p. refl) (both (tagged 102 w) (subscriber_of ws))

no_port_made : {A : Type 0} (make : NamedService → A → List StepBefore → Command ℕ) (read : List (List ℕ) → Option A)
    → ((s : NamedService) (a : A) (t : List StepBefore) → if_of_port (Some (make s a t)) ≡ None)
    → (o : Option NamedService) → if_of_port
    (bind o (λ s. option_map (λ p. make s p.0 p.1) (both (read s.attributes) (lists_of (pattern_of s.options) s.lists)))) ≡ None
no_port_made make read none None = refl
no_port_made make read none (Some s)
    = no_port (λ p. make s p.0 p.1) (λ p. none s p.0 p.1) (both (read s.attributes) (lists_of (pattern_of s.options) s.lists))

no_port_foreign : (x : Option MessagingPattern) (y : Option (List ℕ)) (ws : List (List ℕ)) → if_of_port (foreign_parts x y ws) ≡ None
no_port_foreign None y ws = refl
no_port_foreign (Some kind) None ws = refl
no_port_foreign (Some kind) (Some name) ws = no_port (λ s. command.Foreign kind name s) (λ s. refl) (steps_of kind ws)

no_port_foreign_words : (ws : List (List ℕ)) → if_of_port (foreign_command ws) ≡ None
no_port_foreign_words [] = refl
no_port_foreign_words (w ∷ []) = refl
no_port_foreign_words (w ∷ v ∷ ws) = no_port_foreign (pattern_named w) (name_of v) ws

-- a verb that names a service asks no port
pub no_port_service : (v : ServiceVerb) (ws : List (List ℕ)) → if_of_port (of_service v ws) ≡ None
no_port_service service.Create ws = no_port_made (λ s a t. command.Create s.node s.name s.options a t) specifier_of (λ s a t. refl)
    (service_of ws)
no_port_service service.Open ws = no_port_made (λ s a t. command.Open s.node s.name s.options a t) verifier_of (λ s a t. refl)
    (service_of ws)
no_port_service service.OpenOrCreate ws
    = no_port_made (λ s a t. command.OpenOrCreate s.node s.name s.options a t) verifier_of (λ s a t. refl) (service_of ws)
no_port_service service.Foreign ws = no_port_foreign_words ws

-- nor does a verb that makes a node or a port, or closes a factory
pub no_port_verb : (v : Verb) (ws : List (List ℕ)) → (v ≡ verb.Node)
    ⊎ ((v ≡ verb.Close) ⊎ ((v ≡ verb.Publisher) ⊎ (v ≡ verb.Subscriber))) → if_of_port (of_verb v ws) ≡ None
no_port_verb v ws (inl e) = ap (λ v. if_of_port (of_verb v ws)) e ∙ no_port_node (no_words ws)
no_port_verb v ws (inr (inl e)) = ap (λ v. if_of_port (of_verb v ws)) e ∙ no_port (λ n. command.Close n) (λ n. refl) (only 102 ws)
no_port_verb v ws (inr (inr (inl e))) = ap (λ v. if_of_port (of_verb v ws)) e ∙ no_port_publisher ws
no_port_verb v ws (inr (inr (inr e))) = ap (λ v. if_of_port (of_verb v ws)) e ∙ no_port_subscriber ws

-- a line whose words are read as no command of a port spells none
pub spells_no_port : (line : List ℕ) (c : PortCommand ℕ) → if_of_port (of_words (words_of line)) ≡ None → Spells line (command_of c) → ⊥
spells_no_port line c h s =
    let e : None ≡ Some (command_of c) = sym h ∙ ap if_of_port (line_complete line (command_of c) s) ∙ port_stays c in cc

-- words whose first is a verb are read by it
pub verb_words : (w : List ℕ) (ws : List (List ℕ)) (v : Verb) → verb_of w ≡ Some v → of_words (w ∷ ws) ≡ of_verb v ws
verb_words w ws v e = ap (λ x. of_read x (service_verb_of w) ws) e

-- a line whose words are read as a command spells it
pub spells_read : (line : List ℕ) (ws : List (List ℕ)) (c : Command ℕ) → words_of line ≡ ws → if_of_port (of_words ws) ≡ Some c
    → Spells line c
spells_read line ws c e h = line_sound line c (ap of_words e ∙ stayed (of_words ws) c h)

-- what is answered of a line whose first word is a verb
module _ (line w : List ℕ) (ws : List (List ℕ)) (v : Verb) (split : words_of line ≡ w ∷ ws) (first : verb_of w ≡ Some v)
    (short : length line ≤ 1024) where
  pub reads_some : (r : Option (PortCommand ℕ)) → option_map command_of r ≡ if_of_port (of_verb v ws)
      → IfSome r (λ c. (length line ≤ 1024) × Spells line (command_of c))
  reads_some None h = tt
  reads_some (Some c) h = (short, spells_read line (w ∷ ws) (command_of c) split (ap if_of_port (verb_words w ws v first) ∙ sym h))

  pub reads_none : (r : Option (PortCommand ℕ)) → option_map command_of r ≡ if_of_port (of_verb v ws) → r ≡ None → (c : PortCommand ℕ)
      → Spells line (command_of c) → ⊥
  reads_none r h is c s =
      spells_no_port line c (ap (λ l. if_of_port (of_words l)) split ∙ ap if_of_port (verb_words w ws v first) ∙ sym h ∙ ap
      (option_map command_of) is) s
