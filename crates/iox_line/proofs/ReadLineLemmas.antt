-- What the words of a line are read as is what the line is read as.
use Rattle.std.proofs.Common.{◌≡◌, ◌≢◌, ◌≤◌, ℕ, List, ◌∷◌, Option, None, Some, Ok, Err, true, length, refl, sym, ap, ◌∙◌, subst}
use Rattle.std.specs.Option.{option_map}
use Rattle.std.specs.declared.alloc.AllocError.{AllocError}
use Rattle.iox_command.specs.Ports.{command_of}
use Rattle.iox_command.specs.declared.command.Command.{Command}
use Rattle.iox_command.specs.declared.command.Command.TheVariants as command
use Rattle.iox_line.specs.Outcome.{Answers, AreReadAs, IsReadAs, IsReadSoFar, takes_memory}
use Rattle.iox_line.specs.Reading.{if_of_port, of_read, of_service, of_verb, of_words, only, port_of, with_number, with_two, with_values}
use Rattle.iox_line.specs.Verbs.{verb_of, service_verb_of}
use Rattle.iox_line.specs.Words.{words_of}
use Rattle.iox_line.specs.declared.error.LineError.TheVariants as fault
use Rattle.iox_line.specs.declared.read.ReadLine.{ReadLine}
use Rattle.iox_line.specs.declared.read.ReadLine.TheVariants as read
use Rattle.iox_line.specs.declared.verb.ServiceVerb.{ServiceVerb}
use Rattle.iox_line.specs.declared.verb.Verb.{Verb}
use Rattle.iox_line.specs.declared.verb.Verb.TheVariants as verb
use Rattle.iox_line.proofs.LineLemmas.{line_sound, unread}
use Rattle.iox_line.proofs.PortLemmas.{no_port_service, verb_words}

-- a short line is read as its words are
pub so_far : (line : List ℕ) (r : ReadLine) → length line ≤ 1024 → AreReadAs (of_words (words_of line)) r → IsReadSoFar line r
so_far line (read.OfPort c) short h = (short, line_sound line (command_of c) h)
so_far line (read.Other None) short h = (short, unread line (sym h.0))
so_far line (read.Other (Some c)) short h = ((short, line_sound line c (sym h.0)), ap if_of_port h.0 ∙ h.1)
so_far line (read.Fault fault.Faulty) short h = (short, unread line h.1)
so_far line (read.Fault fault.TooLong) short h = let e : fault.TooLong ≡ fault.Faulty = h.0 in cc

-- words that begin with a verb
pub of_first_verb : (w : List ℕ) (ws : List (List ℕ)) (v : Verb) (r : ReadLine) → verb_of w ≡ Some v → AreReadAs (of_verb v ws) r
    → AreReadAs (of_words (w ∷ ws)) r
of_first_verb w ws v r first h = subst (λ o. AreReadAs o r) (sym (verb_words w ws v first)) h

-- words that begin with a verb that names a service
pub of_first_service : (w : List ℕ) (ws : List (List ℕ)) (v : ServiceVerb) → verb_of w ≡ None → service_verb_of w ≡ Some v
    → AreReadAs (of_words (w ∷ ws)) (read.Other (of_service v ws))
of_first_service w ws v none first =
    let e : of_words (w ∷ ws) ≡ of_service v ws
    = ap (λ x. of_read x (service_verb_of w) ws) none ∙ ap (λ x. of_read None x ws) first in
    (sym e, ap if_of_port e ∙ no_port_service v ws)

-- words that begin with no verb
pub of_no_verb : (w : List ℕ) (ws : List (List ℕ)) → verb_of w ≡ None → service_verb_of w ≡ None → of_words (w ∷ ws) ≡ None
of_no_verb w ws none first = ap (λ x. of_read x (service_verb_of w) ws) none ∙ ap (λ x. of_read None x ws) first

-- where none is of a port, there is none
kept : {A : Type 0} (make : A → Command ℕ) → ((a : A) → if_of_port (Some (make a)) ≡ Some (make a)) → (o : Option A)
    → if_of_port (option_map make o) ≡ None → option_map make o ≡ None
kept make own None h = refl
kept make own (Some a) h = let e : Some (make a) ≡ None = sym (own a) ∙ h in cc

-- a verb of a command on an existing port spells such a command or none
pub port_verb_none : (v : Verb) (ws : List (List ℕ)) → v ≢ verb.Node → v ≢ verb.Close → v ≢ verb.Publisher → v ≢ verb.Subscriber
    → if_of_port (of_verb v ws) ≡ None → of_verb v ws ≡ None
port_verb_none verb.Node ws a b c d h = absurd (a refl)
port_verb_none verb.Close ws a b c d h = absurd (b refl)
port_verb_none verb.Publisher ws a b c d h = absurd (c refl)
port_verb_none verb.Subscriber ws a b c d h = absurd (d refl)
port_verb_none verb.Loan ws a b c d h = kept (λ p. command.Loan p.0 p.1) (λ p. refl) (with_number 112 ws) h
port_verb_none verb.LoanUninit ws a b c d h = kept (λ p. command.LoanUninit p.0 p.1) (λ p. refl) (with_number 112 ws) h
port_verb_none verb.Set ws a b c d h = kept (λ p. command.Set p.0 p.1 p.2) (λ p. refl) (with_two 108 ws) h
port_verb_none verb.Fill ws a b c d h = kept (λ p. command.Fill p.0 p.1) (λ p. refl) (with_values 108 ws) h
port_verb_none verb.Drop ws a b c d h = kept (λ n. command.Drop n) (λ n. refl) (only 108 ws) h
port_verb_none verb.Send ws a b c d h = kept (λ n. command.Send n) (λ n. refl) (only 108 ws) h
port_verb_none verb.Put ws a b c d h = kept (λ p. command.Put p.0 p.1) (λ p. refl) (with_values 112 ws) h
port_verb_none verb.Retry ws a b c d h = kept (λ p. command.Retry p.0 p.1) (λ p. refl) (with_number 112 ws) h
port_verb_none verb.GiveUp ws a b c d h = kept (λ n. command.GiveUp n) (λ n. refl) (only 112 ws) h
port_verb_none verb.Receive ws a b c d h = kept (λ n. command.Receive n) (λ n. refl) (only 115 ws) h
port_verb_none verb.Read ws a b c d h = kept (λ n. command.Read n) (λ n. refl) (only 109 ws) h
port_verb_none verb.Sequence ws a b c d h = kept (λ n. command.Sequence n) (λ n. refl) (only 109 ws) h
port_verb_none verb.Release ws a b c d h = kept (λ n. command.Release n) (λ n. refl) (only 109 ws) h
port_verb_none verb.Update ws a b c d h = kept (λ p. command.Update p) (λ p. refl) (port_of ws) h
port_verb_none verb.Leave ws a b c d h = kept (λ p. command.Leave p) (λ p. refl) (port_of ws) h
port_verb_none verb.Has ws a b c d h = kept (λ n. command.Has n) (λ n. refl) (only 115 ws) h

-- what memory wanting for the rest of a line says of the line
pub other_lacks : (line : List ℕ) (o : Option (Command ℕ)) (a : Command ℕ) → IsReadSoFar line (read.Other o) → o ≡ Some a
    → takes_memory a ≡ true → (lacking : AllocError) → Answers line (Err lacking)
other_lacks line None a h e t lacking = cc
other_lacks line (Some c) a h e t lacking = let same : c ≡ a = cc in (h.0.0, c, h.0.1, ap takes_memory same ∙ t)

-- what the rest of a line that was read says of it
pub other_some : (line : List ℕ) (o : Option (Command ℕ)) (a : Command ℕ) → IsReadSoFar line (read.Other o) → o ≡ Some a
    → IsReadAs line (Ok a)
other_some line None a h e = cc
other_some line (Some c) a h e = let same : c ≡ a = cc in subst (λ d. IsReadAs line (Ok d)) same h.0

pub other_none : (line : List ℕ) (o : Option (Command ℕ)) → IsReadSoFar line (read.Other o) → o ≡ None
    → IsReadAs line (Err fault.Faulty)
other_none line None h e = h
other_none line (Some c) h e = cc
