-- The first word of a line.
use Rattle.std.specs.Prelude.{ℕ, List, [], ◌∷◌, Option, codes}
use Rattle.iox_line.specs.Words.{choice}
use Rattle.iox_line.specs.declared.verb.Verb.{Verb}
use Rattle.iox_line.specs.declared.verb.Verb.TheVariants as verb
use Rattle.iox_line.specs.declared.verb.ServiceVerb.{ServiceVerb}
use Rattle.iox_line.specs.declared.verb.ServiceVerb.TheVariants as service

-- How a verb is written.
abbrev pub verb_word : Verb → List ℕ
verb_word verb.Node = codes "node"
verb_word verb.Close = codes "close"
verb_word verb.Publisher = codes "publisher"
verb_word verb.Subscriber = codes "subscriber"
verb_word verb.Loan = codes "loan"
verb_word verb.LoanUninit = codes "loan_uninit"
verb_word verb.Set = codes "set"
verb_word verb.Fill = codes "fill"
verb_word verb.Drop = codes "drop"
verb_word verb.Send = codes "send"
verb_word verb.Put = codes "put"
verb_word verb.Retry = codes "retry"
verb_word verb.GiveUp = codes "giveup"
verb_word verb.Receive = codes "receive"
verb_word verb.Read = codes "read"
verb_word verb.Sequence = codes "sequence"
verb_word verb.Release = codes "release"
verb_word verb.Update = codes "update"
verb_word verb.Leave = codes "leave"
verb_word verb.Has = codes "has"

-- The verbs that are seldom used, each with its text.
abbrev pub seldom_verbs : List (List ℕ × Verb)
seldom_verbs = (codes "node", verb.Node) ∷ (codes "close", verb.Close) ∷ (codes "publisher", verb.Publisher)
    ∷ (codes "subscriber", verb.Subscriber)
    ∷ (codes "loan_uninit", verb.LoanUninit) ∷ (codes "drop", verb.Drop) ∷ (codes "retry", verb.Retry) ∷ (codes "giveup", verb.GiveUp)
    ∷ (codes "leave", verb.Leave) ∷ (codes "sequence", verb.Sequence) ∷ []

-- All verbs except those that name a service, each with its text.
abbrev pub verbs : List (List ℕ × Verb)
verbs = (codes "put", verb.Put) ∷ (codes "receive", verb.Receive) ∷ (codes "release", verb.Release) ∷ (codes "loan", verb.Loan)
    ∷ (codes "send", verb.Send)
    ∷ (codes "fill", verb.Fill) ∷ (codes "set", verb.Set) ∷ (codes "read", verb.Read) ∷ (codes "has", verb.Has)
    ∷ (codes "update", verb.Update) ∷ seldom_verbs

-- The verb that a word spells, of those that are seldom used.
abbrev pub seldom_verb_of : List ℕ → Option Verb
seldom_verb_of word = choice seldom_verbs word

-- The verb that a word spells.
abbrev pub verb_of : List ℕ → Option Verb
verb_of word = choice verbs word

-- How a verb that names a service is written.
abbrev pub service_verb_word : ServiceVerb → List ℕ
service_verb_word service.Create = codes "create"
service_verb_word service.Open = codes "open"
service_verb_word service.OpenOrCreate = codes "open_or_create"
service_verb_word service.Foreign = codes "foreign"

-- Each verb that names a service with its text.
abbrev pub service_verbs : List (List ℕ × ServiceVerb)
service_verbs = (codes "create", service.Create) ∷ (codes "open", service.Open) ∷ (codes "open_or_create", service.OpenOrCreate)
    ∷ (codes "foreign", service.Foreign) ∷ []

-- The verb that a word spells, of those that name a service.
abbrev pub service_verb_of : List ℕ → Option ServiceVerb
service_verb_of word = choice service_verbs word
