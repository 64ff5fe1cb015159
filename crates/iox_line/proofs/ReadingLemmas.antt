-- What is read of words is what they write, and what is written is read.
use Rattle.std.proofs.Common.{◌≡◌, ℕ, ◌<◌, List, [], ◌∷◌, Option, None, Some, refl, cond, sym, ap, ◌∙◌, subst, length, decimal, map, codes}
use Rattle.std.specs.Option.{option_map}
use Rattle.iox_command.specs.declared.command.Command.{Command}
use Rattle.iox_command.specs.declared.command.Command.TheVariants as command
use Rattle.iox_command.specs.declared.port.PortNumber.{PortNumber}
use Rattle.iox_command.specs.declared.port.PortNumber.TheVariants as port
use Rattle.iox_command.specs.declared.service.ServiceOptions.{ServiceOptions}
use Rattle.iox_command.specs.DescribeBase.declared.pattern.MessagingPattern.{MessagingPattern}
use Rattle.iox_command.specs.declared.step.ForeignStep.{ForeignStep}
use Rattle.iox_command.specs.declared.step.StepBefore.{StepBefore}
use Rattle.iox_command.specs.Patterns.{pattern_of}
use Rattle.iox_line.specs.declared.services.service.NamedService.{NamedService}
use Rattle.iox_line.specs.Services.{pattern_word, ServiceFits, Names}
use Rattle.iox_line.specs.ServicesReading.{pattern_named, name_of, named_service, service_of}
use Rattle.iox_line.proofs.ServiceLemmas.{pattern_some, pattern_own, name_some, name_own, service_some, service_own}
use Rattle.iox_line.specs.Attributes.{Requires}
use Rattle.iox_line.specs.AttributesReading.{specifier_of, verifier_of}
use Rattle.iox_line.proofs.SpellingLemmas.{specifier_some, specifier_own, verifier_some, verifier_own, AreMarked, defined_marked}
use Rattle.iox_line.proofs.SpellingLemmas.{required_marked, marked_unbarred, marked_starts}
use Rattle.iox_line.specs.Steps.{StepFits, WritesLists, ListsFit}
use Rattle.iox_line.specs.StepsReading.{steps_of, lists_of}
use Rattle.iox_line.proofs.StepLemmas.{steps_some, steps_own}
use Rattle.iox_line.proofs.ListLemmas.{lists_some, lists_own, lists_start}
use Rattle.iox_line.specs.Words.{no_words, AreWritten}
use Rattle.iox_line.specs.Numbers.{IsNumber, tag, number_of, tagged}
use Rattle.iox_line.specs.Options.{or_else}
use Rattle.iox_line.proofs.NumberLemmas.{number_some, number_own, tagged_some, tagged_own}
use Rattle.iox_line.proofs.ChoiceLemmas.{choice_some, map_some}
use Rattle.iox_line.specs.declared.verb.Verb.{Verb}
use Rattle.iox_line.specs.declared.verb.Verb.TheVariants as verb
use Rattle.iox_line.specs.declared.verb.ServiceVerb.{ServiceVerb}
use Rattle.iox_line.specs.declared.verb.ServiceVerb.TheVariants as service
use Rattle.iox_line.specs.Verbs.{verb_of, verbs, verb_word, service_verb_of, service_verbs, service_verb_word}
use Rattle.iox_line.specs.Reading.{bind, both, three, only, with_number, with_two, numbers, with_values, port_of, publisher_of}
use Rattle.iox_line.specs.Reading.{subscriber_of, publisher_command, subscriber_command, service_command, create_command, open_command}
use Rattle.iox_line.specs.Reading.{open_or_create_command, foreign_parts, foreign_command, of_service, of_verb, of_read, of_words}
use Rattle.iox_line.proofs.PortOptionLemmas.{bind_some, publisher_some, publisher_own, subscriber_some, subscriber_own}
use Rattle.iox_line.specs.Spelling.{Fits, Writes}
use Rattle.iox_line.proofs.Shorthands.{AllOf, Defines, IsName, IsPort, SpecifierFits, VerifierFits, WritesSteps, port_word}

both_some : {X Y : Type 0} (x : Option X) (y : Option Y) (p : X × Y) → both x y ≡ Some p → (x ≡ Some p.0) × (y ≡ Some p.1)
both_some None y p h = cc
both_some (Some x) None p h = cc
both_some (Some x) (Some y) p h = let e : (x, y) ≡ p = cc in (ap (λ q. Some q.0) e, ap (λ q. Some q.1) e)

both_own : {X Y : Type 0} (x : Option X) (y : Option Y) (a : X) (b : Y) → x ≡ Some a → y ≡ Some b → both x y ≡ Some (a, b)
both_own x y a b p q = ap (λ o. both o y) p ∙ ap (λ o. both (Some a) o) q

-- one made value

only_some : (letter : ℕ) (ws : List (List ℕ)) (n : ℕ) → only letter ws ≡ Some n → IsNumber n × (ws ≡ tag letter n ∷ [])
only_some letter [] n h = cc
only_some letter (w ∷ []) n h = let s = tagged_some letter w n h in (s.0, ap (λ x. x ∷ []) s.1)
only_some letter (w ∷ v ∷ ws) n h = cc

-- a made value and a number

number_pair : (letter : ℕ) (ws : List (List ℕ)) (p : ℕ × ℕ) → with_number letter ws ≡ Some p → IsNumber p.0 × IsNumber p.1
    × (ws ≡ tag letter p.0 ∷ decimal p.1 ∷ [])
number_pair letter [] p h = cc
number_pair letter (w ∷ []) p h = cc
number_pair letter (w ∷ v ∷ []) p h =
    let b = both_some (tagged letter w) (number_of v) p h in
    let s = tagged_some letter w p.0 b.0 in
    let t = number_some v p.1 b.1 in
    (s.0, t.0, ap (λ x. x ∷ v ∷ []) s.1 ∙ ap (λ x. tag letter p.0 ∷ x ∷ []) t.1)
number_pair letter (w ∷ v ∷ u ∷ ws) p h = cc

number_pair_own : (letter n m : ℕ) → IsNumber n → IsNumber m → with_number letter (tag letter n ∷ decimal m ∷ []) ≡ Some (n, m)
number_pair_own letter n m p q = both_own (tagged letter (tag letter n)) (number_of (decimal m)) n m (tagged_own letter n p)
    (number_own m q)

-- a made value and two numbers

three_some : (x y z : Option ℕ) (p : ℕ × ℕ × ℕ) → three x y z ≡ Some p → (x ≡ Some p.0) × (y ≡ Some p.1) × (z ≡ Some p.2)
three_some None y z p h = cc
three_some (Some x) None z p h = cc
three_some (Some x) (Some y) None p h = cc
three_some (Some x) (Some y) (Some z) p h = let e : (x, y, z) ≡ p = cc in (ap (λ q. Some q.0) e, ap (λ q. Some q.1) e, ap (λ q. Some q.2) e)

two_some : (letter : ℕ) (ws : List (List ℕ)) (p : ℕ × ℕ × ℕ) → with_two letter ws ≡ Some p
    → IsNumber p.0 × IsNumber p.1 × IsNumber p.2 × (ws ≡ tag letter p.0 ∷ decimal p.1 ∷ decimal p.2 ∷ [])
two_some letter [] p h = cc
two_some letter (w ∷ []) p h = cc
two_some letter (w ∷ v ∷ []) p h = cc
two_some letter (w ∷ v ∷ u ∷ []) p h =
    let b = three_some (tagged letter w) (number_of v) (number_of u) p h in
    let s = tagged_some letter w p.0 b.0 in
    let t = number_some v p.1 b.1 in
    let r = number_some u p.2 b.2 in (
      s.0,
      t.0,
      r.0,
      ap (λ x. x ∷ v ∷ u ∷ []) s.1 ∙ ap (λ x. tag letter p.0 ∷ x ∷ u ∷ []) t.1 ∙ ap
          (λ x. tag letter p.0 ∷ decimal p.1 ∷ x ∷ []) r.1,
    )
two_some letter (w ∷ v ∷ u ∷ x ∷ ws) p h = cc

two_own : (letter n m k : ℕ) → IsNumber n → IsNumber m → IsNumber k
    → with_two letter (tag letter n ∷ decimal m ∷ decimal k ∷ []) ≡ Some (n, m, k)
two_own letter n m k p q r =
    ap (λ o. three o (number_of (decimal m)) (number_of (decimal k))) (tagged_own letter n p) ∙ ap
    (λ o. three (Some n) o (number_of (decimal k))) (number_own m q)
    ∙ ap (λ o. three (Some n) (Some m) o) (number_own k r)

-- numbers

numbers_some : (ws : List (List ℕ)) (ns : List ℕ) → numbers ws ≡ Some ns → AllOf IsNumber ns × (ws ≡ map decimal ns)
numbers_some [] ns h = let e : [] ≡ ns = cc in subst (λ l. AllOf IsNumber l × ([] ≡ map decimal l)) e (tt, refl)
numbers_some (w ∷ ws) ns h =
    let m = map_some (λ p. p.0 ∷ p.1) (both (number_of w) (numbers ws)) ns h in
    let b = both_some (number_of w) (numbers ws) m.0 m.1 in
    let s = number_some w m.0.0 b.0 in
    let r = numbers_some ws m.0.1 b.1 in
    subst (λ l. AllOf IsNumber l × (w ∷ ws ≡ map decimal l)) m.2 ((s.0, r.0), ap (λ x. x ∷ ws) s.1 ∙ ap (λ l. decimal m.0.0 ∷ l) r.1)

numbers_own : (ns : List ℕ) → AllOf IsNumber ns → numbers (map decimal ns) ≡ Some ns
numbers_own [] a = refl
numbers_own (n ∷ ns) a = ap (option_map (λ p. p.0 ∷ p.1))
    (both_own (number_of (decimal n)) (numbers (map decimal ns)) n ns (number_own n a.0) (numbers_own ns a.1))

values_some : (letter : ℕ) (ws : List (List ℕ)) (p : ℕ × List ℕ) → with_values letter ws ≡ Some p
    → (IsNumber p.0 × AllOf IsNumber p.1) × (ws ≡ tag letter p.0 ∷ map decimal p.1)
values_some letter [] p h = cc
values_some letter (w ∷ ws) p h =
    let b = both_some (tagged letter w) (numbers ws) p h in
    let s = tagged_some letter w p.0 b.0 in
    let r = numbers_some ws p.1 b.1 in
    ((s.0, r.0), ap (λ x. x ∷ ws) s.1 ∙ ap (λ l. tag letter p.0 ∷ l) r.1)

values_own : (letter n : ℕ) (ns : List ℕ) → IsNumber n → AllOf IsNumber ns → with_values letter (tag letter n ∷ map decimal ns)
    ≡ Some (n, ns)
values_own letter n ns p a = both_own (tagged letter (tag letter n)) (numbers (map decimal ns)) n ns (tagged_own letter n p)
    (numbers_own ns a)

-- one port

port_at : (ws : List (List ℕ)) (p : PortNumber) (x : Option ℕ) → only 112 ws ≡ x
    → or_else (option_map (λ n. port.Publisher n) x) (option_map (λ n. port.Subscriber n) (only 115 ws)) ≡ Some p
    → IsPort p × (ws ≡ port_word p ∷ [])
port_at ws p (Some n) e h =
    let same : port.Publisher n ≡ p = cc in
    let s = only_some 112 ws n e in
    subst (λ q. IsPort q × (ws ≡ port_word q ∷ [])) same (s.0, s.1)
port_at ws p None e h =
    let m = map_some (λ n. port.Subscriber n) (only 115 ws) p h in
    let s = only_some 115 ws m.0 m.1 in
    subst (λ q. IsPort q × (ws ≡ port_word q ∷ [])) m.2 (s.0, s.1)

port_some : (ws : List (List ℕ)) (p : PortNumber) → port_of ws ≡ Some p → IsPort p × (ws ≡ port_word p ∷ [])
port_some ws p h = port_at ws p (only 112 ws) refl h

port_own : (p : PortNumber) → IsPort p → port_of (port_word p ∷ []) ≡ Some p
port_own (port.Publisher n) f = ap (λ x. or_else (option_map (λ n. port.Publisher n) x)
    (option_map (λ n. port.Subscriber n) (only 115 (tag 112 n ∷ [])))) (tagged_own 112 n f)
port_own (port.Subscriber n) f = ap (option_map (λ n. port.Subscriber n)) (tagged_own 115 n f)

-- commands of one made value
one_made : (make : ℕ → Command ℕ) (letter : ℕ) (text : List ℕ) (ws : List (List ℕ)) (c : Command ℕ) → ((n : ℕ) → IsNumber n → Fits (make n))
    → ((n : ℕ) → Writes (make n) (text ∷ tag letter n ∷ [])) → option_map make (only letter ws) ≡ Some c → Fits c × Writes c (text ∷ ws)
one_made make letter text ws c fits writes h =
    let m = map_some make (only letter ws) c h in
    let s = only_some letter ws m.0 m.1 in
    subst (λ d. Fits d × Writes d (text ∷ ws)) m.2 (fits m.0 s.0, subst (λ l. Writes (make m.0) (text ∷ l)) (sym s.1) (writes m.0))

-- commands of a made value and a number
one_number : (make : ℕ → ℕ → Command ℕ) (letter : ℕ) (text : List ℕ) (ws : List (List ℕ)) (c : Command ℕ)
    → ((n m : ℕ) → IsNumber n → IsNumber m → Fits (make n m))
    → ((n m : ℕ) → Writes (make n m) (text ∷ tag letter n ∷ decimal m ∷ []))
    → option_map (λ p. make p.0 p.1) (with_number letter ws) ≡ Some c → Fits c × Writes c (text ∷ ws)
one_number make letter text ws c fits writes h =
    let m = map_some (λ p. make p.0 p.1) (with_number letter ws) c h in
    let s = number_pair letter ws m.0 m.1 in
    subst (λ d. Fits d × Writes d (text ∷ ws)) m.2
    (fits m.0.0 m.0.1 s.0 s.1, subst (λ l. Writes (make m.0.0 m.0.1) (text ∷ l)) (sym s.2) (writes m.0.0 m.0.1))

-- commands of a made value and values
one_message : (make : ℕ → List ℕ → Command ℕ) (letter : ℕ) (text : List ℕ) (ws : List (List ℕ)) (c : Command ℕ)
    → ((n : ℕ) (ns : List ℕ) → IsNumber n × AllOf IsNumber ns → Fits (make n ns))
    → ((n : ℕ) (ns : List ℕ) → Writes (make n ns) (text ∷ tag letter n ∷ map decimal ns))
    → option_map (λ p. make p.0 p.1) (with_values letter ws) ≡ Some c → Fits c × Writes c (text ∷ ws)
one_message make letter text ws c fits writes h =
    let m = map_some (λ p. make p.0 p.1) (with_values letter ws) c h in
    let s = values_some letter ws m.0 m.1 in
    subst (λ d. Fits d × Writes d (text ∷ ws)) m.2
    (fits m.0.0 m.0.1 s.0, subst (λ l. Writes (make m.0.0 m.0.1) (text ∷ l)) (sym s.1) (writes m.0.0 m.0.1))

-- commands of a port
one_port : (make : PortNumber → Command ℕ) (text : List ℕ) (ws : List (List ℕ)) (c : Command ℕ)
    → ((p : PortNumber) → IsPort p → Fits (make p))
    → ((p : PortNumber) → Writes (make p) (text ∷ port_word p ∷ [])) → option_map make (port_of ws) ≡ Some c → Fits c × Writes c (text ∷ ws)
one_port make text ws c fits writes h =
    let m = map_some make (port_of ws) c h in
    let s = port_some ws m.0 m.1 in
    subst (λ d. Fits d × Writes d (text ∷ ws)) m.2 (fits m.0 s.0, subst (λ l. Writes (make m.0) (text ∷ l)) (sym s.1) (writes m.0))

set_some : (ws : List (List ℕ)) (c : Command ℕ) → option_map (λ p. command.Set p.0 p.1 p.2) (with_two 108 ws) ≡ Some c → Fits c
    × Writes c (codes "set" ∷ ws)
set_some ws c h =
    let m = map_some (λ p. command.Set p.0 p.1 p.2) (with_two 108 ws) c h in
    let s = two_some 108 ws m.0 m.1 in
    subst (λ d. Fits d × Writes d (codes "set" ∷ ws)) m.2 ((s.0, s.1, s.2), ap (λ l. codes "set" ∷ l) s.3)

node_some : (ws : List (List ℕ)) (c : Command ℕ) → cond (no_words ws) (Some command.Node) None ≡ Some c → Fits c
    × Writes c (codes "node" ∷ ws)
node_some [] c h = let e : command.Node ≡ c = cc in subst (λ d. Fits d × Writes d (codes "node" ∷ [])) e (tt, refl)
node_some (w ∷ ws) c h = cc

publisher_sound : (ws : List (List ℕ)) (c : Command ℕ) → publisher_command ws ≡ Some c → Fits c × Writes c (codes "publisher" ∷ ws)
publisher_sound [] c h = cc
publisher_sound (w ∷ ws) c h =
    let m = map_some (λ p. command.Publisher p.0 p.1) (both (tagged 102 w) (publisher_of ws)) c h in
    let b = both_some (tagged 102 w) (publisher_of ws) m.0 m.1 in
    let s = tagged_some 102 w m.0.0 b.0 in
    let r = publisher_some ws m.0.1 b.1 in
    subst (λ d. Fits d × Writes d (codes "publisher" ∷ w ∷ ws)) m.2 ((s.0, r.0), (ws, r.1, ap (λ x. codes "publisher" ∷ x ∷ ws) s.1))

subscriber_sound : (ws : List (List ℕ)) (c : Command ℕ) → subscriber_command ws ≡ Some c → Fits c × Writes c (codes "subscriber" ∷ ws)
subscriber_sound [] c h = cc
subscriber_sound (w ∷ ws) c h =
    let m = map_some (λ p. command.Subscriber p.0 p.1) (both (tagged 102 w) (subscriber_of ws)) c h in
    let b = both_some (tagged 102 w) (subscriber_of ws) m.0 m.1 in
    let s = tagged_some 102 w m.0.0 b.0 in
    let r = subscriber_some ws m.0.1 b.1 in
    subst (λ d. Fits d × Writes d (codes "subscriber" ∷ w ∷ ws)) m.2 ((s.0, r.0), (ws, r.1, ap (λ x. codes "subscriber" ∷ x ∷ ws) s.1))

-- commands of a service

service_sound : {A : Type 0} (make : NamedService → A → List StepBefore → Command ℕ) (read : List (List ℕ) → Option A)
    (Fit : A → Type 0) (Says : A → List (List ℕ) → Type 0) (text : List ℕ)
    (ws : List (List ℕ)) (c : Command ℕ) → ((vs : List (List ℕ)) (a : A) → read vs ≡ Some a → Fit a × Says a vs)
    → ((s : NamedService) (a : A) (t : List StepBefore) → IsNumber s.node × IsName s.name × ServiceFits s.options → Fit a
    → ListsFit (pattern_of s.options) 0 t → Fits (make s a t))
    → ((s : NamedService) (a : A) (t : List StepBefore) → Says a s.attributes → WritesLists 0 t s.lists
    → Names s.node s.name s.options s.attributes s.lists ws → Writes (make s a t) (text ∷ ws))
    → service_command make read ws ≡ Some c → Fits c × Writes c (text ∷ ws)
service_sound make read Fit Says text ws c law fits writes h =
    let s = bind_some (service_of ws) (λ s. option_map (λ p. make s p.0 p.1)
    (both (read s.attributes) (lists_of (pattern_of s.options) s.lists))) c h in
    let m = map_some (λ p. make s.0 p.0 p.1) (both (read s.0.attributes) (lists_of (pattern_of s.0.options) s.0.lists)) c s.2 in
    let b = both_some (read s.0.attributes) (lists_of (pattern_of s.0.options) s.0.lists) m.0 m.1 in
    let n = service_some ws s.0 s.1 in
    let a = law s.0.attributes m.0.0 b.0 in
    let t = lists_some (pattern_of s.0.options) s.0.lists m.0.1 b.1 in
    subst (λ d. Fits d × Writes d (text ∷ ws)) m.2 (fits s.0 m.0.0 m.0.1 n.0 a.0 t.0, writes s.0 m.0.0 m.0.1 a.1 t.1 n.1)

service_complete : {A : Type 0} (make : NamedService → A → List StepBefore → Command ℕ) (read : List (List ℕ) → Option A)
    (named attributed listed : List (List ℕ)) (node : ℕ) (name : List ℕ) (o : ServiceOptions)
    (a : A) (t : List StepBefore) → IsNumber node → IsName name → ServiceFits o → ListsFit (pattern_of o) 0 t → WritesLists 0 t listed
    → Names node name o attributed listed named → AreMarked attributed → read attributed ≡ Some a
    → service_command make read named ≡ Some (make (named_service node name o attributed listed) a t)
service_complete make read named attributed listed node name o a t n l f g w e m r =
    ap (λ x. bind x (λ s. option_map (λ p. make s p.0 p.1) (both (read s.attributes) (lists_of (pattern_of s.options) s.lists))))
    (service_own named attributed listed node name o n l f (marked_unbarred attributed m) (marked_starts attributed m)
    (lists_start (pattern_of o) t listed g w) e)
    ∙ ap (option_map (λ p. make (named_service node name o attributed listed) p.0 p.1))
    (both_own (read attributed) (lists_of (pattern_of o) listed) a t r (lists_own (pattern_of o) t listed g w))

create_sound : (ws : List (List ℕ)) (c : Command ℕ) → create_command ws ≡ Some c → Fits c × Writes c (codes "create" ∷ ws)
create_sound ws c h = service_sound (λ s a t. command.Create s.node s.name s.options a t) specifier_of SpecifierFits Defines
    (codes "create") ws c specifier_some
    (λ s a t f g l. (f.0, f.1, f.2, g, l)) (λ s a t d l n. (s.attributes, s.lists, ws, d, l, n, refl)) h

open_sound : (ws : List (List ℕ)) (c : Command ℕ) → open_command ws ≡ Some c → Fits c × Writes c (codes "open" ∷ ws)
open_sound ws c h = service_sound (λ s a t. command.Open s.node s.name s.options a t) verifier_of VerifierFits Requires (codes "open")
    ws c verifier_some
    (λ s a t f g l. (f.0, f.1, f.2, g, l)) (λ s a t d l n. (s.attributes, s.lists, ws, d, l, n, refl)) h

open_or_create_sound : (ws : List (List ℕ)) (c : Command ℕ) → open_or_create_command ws ≡ Some c → Fits c
    × Writes c (codes "open_or_create" ∷ ws)
open_or_create_sound ws c h = service_sound (λ s a t. command.OpenOrCreate s.node s.name s.options a t) verifier_of VerifierFits
    Requires (codes "open_or_create") ws c verifier_some
    (λ s a t f g l. (f.0, f.1, f.2, g, l)) (λ s a t d l n. (s.attributes, s.lists, ws, d, l, n, refl)) h

foreign_at : (w v : List ℕ) (ws : List (List ℕ)) (c : Command ℕ) (x : Option MessagingPattern) (y : Option (List ℕ))
    → pattern_named w ≡ x → name_of v ≡ y → foreign_parts x y ws ≡ Some c
    → Fits c × Writes c (codes "foreign" ∷ w ∷ v ∷ ws)
foreign_at w v ws c None y e f h = cc
foreign_at w v ws c (Some kind) None e f h = cc
foreign_at w v ws c (Some kind) (Some name) e f h =
    let m = map_some (λ s. command.Foreign kind name s) (steps_of kind ws) c h in
    let n = name_some v name f in
    let s = steps_some kind ws m.0 m.1 in
    subst (λ d. Fits d × Writes d (codes "foreign" ∷ w ∷ v ∷ ws)) m.2 (
      (n.0, s.0.0, s.0.1),
      (
        ws,
        s.1,
        ap (λ x. codes "foreign" ∷ x ∷ v ∷ ws) (pattern_some w kind e) ∙ ap (λ x. codes "foreign" ∷ pattern_word kind ∷ x ∷ ws)
            n.1,
      ),
    )

foreign_sound : (ws : List (List ℕ)) (c : Command ℕ) → foreign_command ws ≡ Some c → Fits c × Writes c (codes "foreign" ∷ ws)
foreign_sound [] c h = cc
foreign_sound (w ∷ []) c h = cc
foreign_sound (w ∷ v ∷ ws) c h = foreign_at w v ws c (pattern_named w) (name_of v) refl refl h

foreign_complete : (kind : MessagingPattern) (name : List ℕ) (ss : List ForeignStep) (ws : List (List ℕ)) → IsName name → 0 < length ss
    → AllOf (StepFits kind) ss → WritesSteps ss ws
    → foreign_command (pattern_word kind ∷ name ∷ ws) ≡ Some (command.Foreign kind name ss)
foreign_complete kind name ss ws n l f e =
    ap (λ x. foreign_parts x (name_of name) ws) (pattern_own kind) ∙ ap (λ x. foreign_parts (Some kind) x ws) (name_own name n)
    ∙ ap (option_map (λ s. command.Foreign kind name s)) (steps_own kind ss ws l f e)

-- a verb that names a service and the words after it write what they are read as
named_sound : (v : ServiceVerb) (ws : List (List ℕ)) (c : Command ℕ) → of_service v ws ≡ Some c → Fits c
    × Writes c (service_verb_word v ∷ ws)
named_sound service.Create ws c h = create_sound ws c h
named_sound service.Open ws c h = open_sound ws c h
named_sound service.OpenOrCreate ws c h = open_or_create_sound ws c h
named_sound service.Foreign ws c h = foreign_sound ws c h

update_written : (p : PortNumber) → Writes (command.Update p) (codes "update" ∷ port_word p ∷ [])
update_written (port.Publisher n) = refl
update_written (port.Subscriber n) = refl

leave_written : (p : PortNumber) → Writes (command.Leave p) (codes "leave" ∷ port_word p ∷ [])
leave_written (port.Publisher n) = refl
leave_written (port.Subscriber n) = refl

-- a verb and the words after it write what they are read as
verb_sound : (v : Verb) (ws : List (List ℕ)) (c : Command ℕ) → of_verb v ws ≡ Some c → Fits c × Writes c (verb_word v ∷ ws)
verb_sound verb.Node ws c h = node_some ws c h
verb_sound verb.Close ws c h = one_made (λ n. command.Close n) 102 (codes "close") ws c (λ n f. f) (λ n. refl) h
verb_sound verb.Publisher ws c h = publisher_sound ws c h
verb_sound verb.Subscriber ws c h = subscriber_sound ws c h
verb_sound verb.Loan ws c h = one_number (λ n m. command.Loan n m) 112 (codes "loan") ws c (λ n m f g. (f, g)) (λ n m. refl) h
verb_sound verb.LoanUninit ws c h = one_number (λ n m. command.LoanUninit n m) 112 (codes "loan_uninit") ws c (λ n m f g. (f, g))
    (λ n m. refl) h
verb_sound verb.Set ws c h = set_some ws c h
verb_sound verb.Fill ws c h = one_message (λ n ns. command.Fill n ns) 108 (codes "fill") ws c (λ n ns f. f) (λ n ns. refl) h
verb_sound verb.Drop ws c h = one_made (λ n. command.Drop n) 108 (codes "drop") ws c (λ n f. f) (λ n. refl) h
verb_sound verb.Send ws c h = one_made (λ n. command.Send n) 108 (codes "send") ws c (λ n f. f) (λ n. refl) h
verb_sound verb.Put ws c h = one_message (λ n ns. command.Put n ns) 112 (codes "put") ws c (λ n ns f. f) (λ n ns. refl) h
verb_sound verb.Retry ws c h = one_number (λ n m. command.Retry n m) 112 (codes "retry") ws c (λ n m f g. (f, g)) (λ n m. refl) h
verb_sound verb.GiveUp ws c h = one_made (λ n. command.GiveUp n) 112 (codes "giveup") ws c (λ n f. f) (λ n. refl) h
verb_sound verb.Receive ws c h = one_made (λ n. command.Receive n) 115 (codes "receive") ws c (λ n f. f) (λ n. refl) h
verb_sound verb.Read ws c h = one_made (λ n. command.Read n) 109 (codes "read") ws c (λ n f. f) (λ n. refl) h
verb_sound verb.Sequence ws c h = one_made (λ n. command.Sequence n) 109 (codes "sequence") ws c (λ n f. f) (λ n. refl) h
verb_sound verb.Release ws c h = one_made (λ n. command.Release n) 109 (codes "release") ws c (λ n f. f) (λ n. refl) h
verb_sound verb.Update ws c h =
    one_port (λ p. command.Update p) (codes "update") ws c (elim [ port.Publisher n ↦ λ f. f | port.Subscriber n ↦ λ f. f ])
    update_written h
verb_sound verb.Leave ws c h =
    one_port (λ p. command.Leave p) (codes "leave") ws c (elim [ port.Publisher n ↦ λ f. f | port.Subscriber n ↦ λ f. f ])
    leave_written h
verb_sound verb.Has ws c h = one_made (λ n. command.Has n) 115 (codes "has") ws c (λ n f. f) (λ n. refl) h

verbs_written : AreWritten verb_word verbs
verbs_written = (
  refl,
  (
    refl,
    (
      refl,
      (
        refl,
        (
          refl,
          (refl, (refl, (refl, (refl, (refl, (refl, (refl, (refl, (refl, (refl, (refl, (refl, (refl, (refl, (refl, tt))))))))))))))),
        ),
      ),
    ),
  ),
)

service_verbs_written : AreWritten service_verb_word service_verbs
service_verbs_written = (refl, (refl, (refl, (refl, tt))))

read_at : (w : List ℕ) (ws : List (List ℕ)) (c : Command ℕ) (v : Option Verb) (u : Option ServiceVerb) → verb_of w ≡ v
    → service_verb_of w ≡ u → of_read v u ws ≡ Some c → Fits c × Writes c (w ∷ ws)
read_at w ws c (Some v) u e f h = subst (λ x. Fits c × Writes c (x ∷ ws)) (sym (choice_some verb_word verbs w v verbs_written e))
    (verb_sound v ws c h)
read_at w ws c None (Some u) e f h = subst (λ x. Fits c × Writes c (x ∷ ws))
    (sym (choice_some service_verb_word service_verbs w u service_verbs_written f)) (named_sound u ws c h)
read_at w ws c None None e f h = cc

-- words that are read as a command write it
pub words_sound : (ws : List (List ℕ)) (c : Command ℕ) → of_words ws ≡ Some c → Fits c × Writes c ws
words_sound [] c h = cc
words_sound (w ∷ ws) c h = read_at w ws c (verb_of w) (service_verb_of w) refl refl h

-- words that write a command are read as it
pub words_complete : (c : Command ℕ) (ws : List (List ℕ)) → Fits c → Writes c ws → of_words ws ≡ Some c
words_complete command.Node ws f w = ap of_words w
words_complete (command.Create n a o t s) ws f w = ap of_words w.6
    ∙ service_complete (λ x y z. command.Create x.node x.name x.options y z) specifier_of w.2 w.0 w.1 n a o t s f.0 f.1 f.2 f.4 w.4 w.5
    (defined_marked w.0 t w.3) (specifier_own w.0 t f.3 w.3)
words_complete (command.Open n a o t s) ws f w = ap of_words w.6
    ∙ service_complete (λ x y z. command.Open x.node x.name x.options y z) verifier_of w.2 w.0 w.1 n a o t s f.0 f.1 f.2 f.4 w.4 w.5
    (required_marked w.0 t w.3) (verifier_own w.0 t f.3 w.3)
words_complete (command.OpenOrCreate n a o t s) ws f w = ap of_words w.6
    ∙ service_complete (λ x y z. command.OpenOrCreate x.node x.name x.options y z) verifier_of w.2 w.0 w.1 n a o t s f.0 f.1 f.2 f.4 w.4
    w.5 (required_marked w.0 t w.3) (verifier_own w.0 t f.3 w.3)
words_complete (command.Close n) ws f w = ap of_words w ∙ ap (option_map (λ n. command.Close n)) (tagged_own 102 n f)
words_complete (command.Loan n m) ws f w = ap of_words w ∙ ap (option_map (λ p. command.Loan p.0 p.1)) (number_pair_own 112 n m f.0 f.1)
words_complete (command.LoanUninit n m) ws f w
    = ap of_words w ∙ ap (option_map (λ p. command.LoanUninit p.0 p.1)) (number_pair_own 112 n m f.0 f.1)
words_complete (command.Set n m k) ws f w = ap of_words w ∙ ap (option_map (λ p. command.Set p.0 p.1 p.2)) (two_own 108 n m k f.0 f.1 f.2)
words_complete (command.Fill n ns) ws f w = ap of_words w ∙ ap (option_map (λ p. command.Fill p.0 p.1)) (values_own 108 n ns f.0 f.1)
words_complete (command.Drop n) ws f w = ap of_words w ∙ ap (option_map (λ n. command.Drop n)) (tagged_own 108 n f)
words_complete (command.Send n) ws f w = ap of_words w ∙ ap (option_map (λ n. command.Send n)) (tagged_own 108 n f)
words_complete (command.Put n ns) ws f w = ap of_words w ∙ ap (option_map (λ p. command.Put p.0 p.1)) (values_own 112 n ns f.0 f.1)
words_complete (command.Retry n m) ws f w = ap of_words w ∙ ap (option_map (λ p. command.Retry p.0 p.1)) (number_pair_own 112 n m f.0 f.1)
words_complete (command.GiveUp n) ws f w = ap of_words w ∙ ap (option_map (λ n. command.GiveUp n)) (tagged_own 112 n f)
words_complete (command.Receive n) ws f w = ap of_words w ∙ ap (option_map (λ n. command.Receive n)) (tagged_own 115 n f)
words_complete (command.Read n) ws f w = ap of_words w ∙ ap (option_map (λ n. command.Read n)) (tagged_own 109 n f)
words_complete (command.Sequence n) ws f w = ap of_words w ∙ ap (option_map (λ n. command.Sequence n)) (tagged_own 109 n f)
words_complete (command.Release n) ws f w = ap of_words w ∙ ap (option_map (λ n. command.Release n)) (tagged_own 109 n f)
words_complete (command.Update (port.Publisher n)) ws f w =
    ap of_words w ∙ ap (option_map (λ p. command.Update p)) (port_own (port.Publisher n) f)
words_complete (command.Update (port.Subscriber n)) ws f w =
    ap of_words w ∙ ap (option_map (λ p. command.Update p)) (port_own (port.Subscriber n) f)
words_complete (command.Leave (port.Publisher n)) ws f w =
    ap of_words w ∙ ap (option_map (λ p. command.Leave p)) (port_own (port.Publisher n) f)
words_complete (command.Leave (port.Subscriber n)) ws f w =
    ap of_words w ∙ ap (option_map (λ p. command.Leave p)) (port_own (port.Subscriber n) f)
words_complete (command.Has n) ws f w = ap of_words w ∙ ap (option_map (λ n. command.Has n)) (tagged_own 115 n f)
words_complete (command.Publisher n o) ws f w = ap of_words w.2 ∙ ap (option_map (λ p. command.Publisher p.0 p.1))
    (both_own (tagged 102 (tag 102 n)) (publisher_of w.0) n o (tagged_own 102 n f.0) (publisher_own w.0 o f.1 w.1))
words_complete (command.Subscriber n o) ws f w = ap of_words w.2 ∙ ap (option_map (λ p. command.Subscriber p.0 p.1))
    (both_own (tagged 102 (tag 102 n)) (subscriber_of w.0) n o (tagged_own 102 n f.0) (subscriber_own w.0 o f.1 w.1))
words_complete (command.Foreign p a s) ws f w = ap of_words w.2 ∙ foreign_complete p a s w.0 f.0 f.1 f.2 w.1
