-- Words that are read as the options of a service write them, and what writes them is read, in any order.
use Rattle.std.proofs.Common.{◌≡◌, ℕ, ◌+◌, ◌==◌, Bool, true, false, List, [], ◌∷◌, Option, None, Some, refl, cond, sym, ap, ◌∙◌, subst}
use Rattle.std.proofs.Common.{length, decimal, codes, arith, eqb-true}
use Rattle.std.specs.Option.{option_map}
use Rattle.std.proofs.lemmas.Grind.{common_steps}
use Rattle.iox_command.specs.declared.service.NumberOrOff.{NumberOrOff}
use Rattle.iox_command.specs.declared.service.NumberOrOff.TheVariants as value
use Rattle.iox_command.specs.declared.service.PublishSubscribeOptions.{PublishSubscribeOptions}
use Rattle.iox_command.specs.declared.service.EventOptions.{EventOptions}
use Rattle.iox_command.specs.declared.service.RequestResponseOptions.{RequestResponseOptions}
use Rattle.iox_line.specs.Words.{same}
use Rattle.iox_line.specs.Numbers.{IsNumber, number_of}
use Rattle.iox_line.specs.Options.{AnyOrder, are_apart, find, named, count, one, option_words}
use Rattle.iox_line.proofs.NumberLemmas.{number_some, number_own}
use Rattle.iox_line.proofs.ChoiceLemmas.{same_is, choice_some, map_some, named_some, named_own, IfThere}
use Rattle.iox_line.proofs.OptionLemmas.{Found, options_sound, options_complete}
use Rattle.iox_line.specs.Services.{switch_word, number_or_off_word, IsNumberOrOff}
use Rattle.iox_line.specs.ServicesReading.{Pair, pair, only_if, switches, switch_of, number_or_off_of, publish_subscribe_options}
use Rattle.iox_line.specs.ServicesReading.{publish_subscribe_parts, publish_subscribe_count, publish_subscribe_of, event_options}
use Rattle.iox_line.specs.ServicesReading.{event_parts, event_count, event_of, request_response_options, request_response_parts}
use Rattle.iox_line.specs.ServicesReading.{request_response_count, request_response_of}
use Rattle.iox_line.proofs.Shorthands.{PublishSubscribeFits, publish_subscribe_keys, publish_subscribe_values, EventFits, event_keys}
use Rattle.iox_line.proofs.Shorthands.{event_values, RequestResponseFits, request_response_keys, request_response_values}
use Rattle.std.specs.Prelude.{IfSome}

pair_some : {X Y : Type 0} (x : Option X) (y : Option Y) (p : Pair X Y) → pair x y ≡ Some p → (x ≡ Some p.first) × (y ≡ Some p.second)
pair_some None y p h = cc
pair_some (Some x) None p h = cc
pair_some {X} {Y} (Some x) (Some y) p h =
    let both : Pair X Y = record { first = x; second = y } in
    let e : both ≡ p = cc in
    (ap (λ (q : Pair X Y). Some q.first) e, ap (λ (q : Pair X Y). Some q.second) e)

pair_own : {X Y : Type 0} (x : Option X) (y : Option Y) (p : Pair X Y) → x ≡ Some p.first → y ≡ Some p.second → pair x y ≡ Some p
pair_own x y p e f = ap (λ o. pair o y) e ∙ ap (λ o. pair (Some p.first) o) f

only_at : {X : Type 0} (x o : X) (t : Bool) → t ≡ t → cond t (Some x) None ≡ Some o → (t ≡ true) × (x ≡ o)
only_at x o true e h = (refl, cc)
only_at x o false e h = cc

only_some : {X : Type 0} (test : X → Bool) (x : Option X) (o : X) → only_if test x ≡ Some o → (x ≡ Some o) × (test o ≡ true)
only_some test None o h = cc
only_some test (Some x) o h = let s = only_at x o (test x) refl h in (ap (λ q. Some q) s.1, ap test (sym s.1) ∙ s.0)

only_own : {X : Type 0} (test : X → Bool) (x : Option X) (o : X) → x ≡ Some o → test o ≡ true → only_if test x ≡ Some o
only_own test x o e t = ap (λ q. only_if test q) e ∙ ap (λ b. cond b (Some o) None) t

-- every value will do
abbrev Any : {X : Type 0} → X → Type 0
Any x = Unit {0}

if_number : (o : Option ℕ) → IfThere IsNumber o → IfSome o IsNumber
if_number None g = tt
if_number (Some n) g = g

there_number : (o : Option ℕ) → IfSome o IsNumber → IfThere IsNumber o
there_number None g = tt
there_number (Some n) g = g

if_number_or_off : (o : Option NumberOrOff) → IfThere IsNumberOrOff o → IfSome o IsNumberOrOff
if_number_or_off None g = tt
if_number_or_off (Some n) g = g

there_number_or_off : (o : Option NumberOrOff) → IfSome o IsNumberOrOff → IfThere IsNumberOrOff o
there_number_or_off None g = tt
there_number_or_off (Some n) g = g

there_any : {X : Type 0} (o : Option X) → IfThere (λ v. Unit {0}) o
there_any None = tt
there_any (Some x) = tt

count_map : {X : Type 0} (text : X → List ℕ) (o : Option X) (values : List (Option (List ℕ)))
    → count (option_map text o ∷ values) ≡ one o + count values
count_map text None values = omega arith
count_map text (Some x) values = refl

same_count : (n m : ℕ) → n ≡ m → (n == m) ≡ true
same_count n m h = grind (arith, common_steps, h)

switch_some : (w : List ℕ) (a : Bool) → switch_of w ≡ Some a → Unit {0} × (w ≡ switch_word a)
switch_some w a h = (tt, choice_some switch_word switches w a (refl, (refl, tt)) h)

switch_own : (a : Bool) → Unit {0} → switch_of (switch_word a) ≡ Some a
switch_own false g = refl
switch_own true g = refl

off_at : (w : List ℕ) (a : NumberOrOff) (t : Bool) → same w (codes "off") ≡ t
    → cond t (Some value.Off) (option_map (λ n. value.Number n) (number_of w)) ≡ Some a
    → IsNumberOrOff a × (w ≡ number_or_off_word a)
off_at w a true e h =
    let same_value : value.Off ≡ a = cc in
    subst (λ b. IsNumberOrOff b × (w ≡ number_or_off_word b)) same_value (tt, same_is w (codes "off") e)
off_at w a false e h =
    let m = map_some (λ n. value.Number n) (number_of w) a h in
    subst (λ b. IsNumberOrOff b × (w ≡ number_or_off_word b)) m.2 (number_some w m.0 m.1)

number_or_off_some : (w : List ℕ) (a : NumberOrOff) → number_or_off_of w ≡ Some a → IsNumberOrOff a × (w ≡ number_or_off_word a)
number_or_off_some w a h = off_at w a (same w (codes "off")) refl h

not_off : (w : List ℕ) (n : ℕ) (t : Bool) → same w (codes "off") ≡ t → number_of w ≡ Some n → t ≡ false
not_off w n true e h = let bad : None ≡ Some n = ap number_of (sym (same_is w (codes "off") e)) ∙ h in cc
not_off w n false e h = refl

number_or_off_own : (a : NumberOrOff) → IsNumberOrOff a → number_or_off_of (number_or_off_word a) ≡ Some a
number_or_off_own (value.Number n) g =
    let own = number_own n g in
    ap (λ t. cond t (Some value.Off) (option_map (λ m. value.Number m) (number_of (decimal n))))
    (not_off (decimal n) n (same (decimal n) (codes "off")) refl own)
    ∙ ap (λ x. option_map (λ m. value.Number m) x) own
number_or_off_own value.Off g = refl

-- ---- parts that are read one after another

-- how a value is read of what an option is set to, if it is set, and what writes it
record Value {X : Type 0} (read : List ℕ → Option X) (text : X → List ℕ) (Fit : Option X → Type 0) : Type 0 where
  some : (word : Option (List ℕ)) (o : Option X) → named read word ≡ Some o → Fit o × (word ≡ option_map text o)
  own : (o : Option X) → Fit o → named read (option_map text o) ≡ Some o

number : Value number_of decimal (λ o. IfSome o IsNumber)
number = record {
  some = λ word o h. let r = named_some number_of decimal IsNumber number_some word o h in (if_number o r.0, r.1);
  own = λ o f. named_own number_of decimal IsNumber number_own o (there_number o f);
}

number_or_off : Value number_or_off_of number_or_off_word (λ o. IfSome o IsNumberOrOff)
number_or_off = record {
  some = λ word o h.
      let r = named_some number_or_off_of number_or_off_word IsNumberOrOff number_or_off_some word o h in
      (if_number_or_off o r.0, r.1);
  own = λ o f. named_own number_or_off_of number_or_off_word IsNumberOrOff number_or_off_own o (there_number_or_off o f);
}

switch : Value switch_of switch_word Any
switch = record {
  some = λ word o h. (tt, (named_some switch_of switch_word Any switch_some word o h).1);
  own = λ o f. named_own switch_of switch_word Any switch_own o (there_any o);
}

-- what is read part by part of words gives the values of the parts to their keys, and is read of words that do
record Reads {T : Type 0} (keys : List (List ℕ)) (parts : List (List ℕ) → Option T) (values : T → List (Option (List ℕ)))
    (Fit : T → Type 0) (total : T → ℕ) : Type 0 where
  some : (ws : List (List ℕ)) (t : T) → parts ws ≡ Some t → Fit t × Found keys ws (values t)
  own : (ws : List (List ℕ)) (t : T) → Fit t → Found keys ws (values t) → parts ws ≡ Some t
  counted : (t : T) → count (values t) ≡ total t

-- the last option
last : {X : Type 0} {read : List ℕ → Option X} {text : X → List ℕ} {Fit : Option X → Type 0} → Value read text Fit → (key : List ℕ)
    → Reads (key ∷ []) (λ ws. named read (find key ws)) (λ (o : Option X). option_map text o ∷ []) Fit (λ o. one o)
last {read = read} {text = text} value key = record {
  some = λ ws o h. let r = value.some (find key ws) o h in (r.0, (r.1, tt));
  own = λ ws o f r. ap (λ x. named read x) r.0 ∙ value.own o f;
  counted = λ o. omega (arith, count_map text o []);
}

-- an option before others
next : {X T : Type 0} {read : List ℕ → Option X} {text : X → List ℕ} {Good : Option X → Type 0} {keys : List (List ℕ)}
    {parts : List (List ℕ) → Option T} {values : T → List (Option (List ℕ))} {Fit : T → Type 0} {total : T → ℕ}
    → Value read text Good → (key : List ℕ) → Reads keys parts values Fit total
    → Reads (key ∷ keys) (λ ws. pair (named read (find key ws)) (parts ws))
    (λ (p : Pair (Option X) T). option_map text p.first ∷ values p.second)
    (λ (p : Pair (Option X) T). Good p.first × Fit p.second) (λ (p : Pair (Option X) T). one p.first + total p.second)
next {read = read} {text = text} {parts = parts} {values = values} value key rest = record {
  some = λ ws p h.
      let both = pair_some (named read (find key ws)) (parts ws) p h in
      let r = value.some (find key ws) p.first both.0 in
      let more = rest.some ws p.second both.1 in
      ((r.0, more.0), (r.1, more.1));
  own = λ ws p f r.
      pair_own (named read (find key ws)) (parts ws) p (ap (λ x. named read x) r.0 ∙ value.own p.first f.0) (rest.own ws p.second f.1 r.1);
  counted = λ p. count_map text p.first (values p.second) ∙ ap (λ n. one p.first + n) (rest.counted p.second);
}

-- words that are read as options, as many as there are words, write them
options_some : {T O : Type 0} (keys : List (List ℕ)) (parts : List (List ℕ) → Option T) (values : O → List (Option (List ℕ)))
    (Fit : T → Type 0) (sum : T → ℕ) (Fits : O → Type 0) (make : T → O) (total : O → ℕ) → Reads keys parts (λ p. values (make p)) Fit sum
    → ((p : T) → Fit p → Fits (make p)) → ((p : T) → total (make p) ≡ sum p) → are_apart keys ≡ true → (ws : List (List ℕ)) (o : O)
    → only_if (λ q. length ws == total q) (option_map make (parts ws)) ≡ Some o → Fits o × AnyOrder ws (option_words keys (values o))
options_some keys parts values Fit sum Fits make total reads fits same_total apart ws o h =
    let s = only_some (λ q. length ws == total q) (option_map make (parts ws)) o h in
    let m = map_some make (parts ws) o s.0 in
    let r = reads.some ws m.0 m.1 in
    let whole = subst (λ q. Fits q × Found keys ws (values q) × (total q ≡ count (values q))) m.2
    (fits m.0 r.0, r.1, same_total m.0 ∙ sym (reads.counted m.0)) in
    (whole.0, options_sound keys (values o) ws apart whole.1 (eqb-true (length ws) (total o) s.1 ∙ whole.2))

-- options are read from words that write them, in any order
options_own : {T O : Type 0} (keys : List (List ℕ)) (parts : List (List ℕ) → Option T) (values : O → List (Option (List ℕ)))
    (Fit : T → Type 0) (sum : T → ℕ) (make : T → O) (total : O → ℕ) → Reads keys parts (λ p. values (make p)) Fit sum
    → ((p : T) → total (make p) ≡ sum p) → are_apart keys ≡ true → (ws : List (List ℕ)) (p : T) → length keys ≡ length (values (make p))
    → Fit p → AnyOrder ws (option_words keys (values (make p)))
    → only_if (λ q. length ws == total q) (option_map make (parts ws)) ≡ Some (make p)
options_own keys parts values Fit sum make total reads same_total apart ws p same f w =
    let r = options_complete keys (values (make p)) ws apart same w in
    only_own (λ q. length ws == total q) (option_map make (parts ws)) (make p) (ap (λ x. option_map make x) (reads.own ws p f r.0))
    (same_count (length ws) (total (make p)) (r.1 ∙ reads.counted p ∙ sym (same_total p)))

-- two parts
abbrev both : {X Y : Type 0} → X → Y → Pair X Y
both x y = record { first = x; second = y }

-- ---- a publish-subscribe service

abbrev PublishSubscribeParts : Type 0
PublishSubscribeParts = Pair (Option ℕ) (Pair (Option ℕ) (Pair (Option ℕ) (Pair (Option ℕ) (Pair (Option ℕ)
    (Pair (Option ℕ) (Pair (Option Bool) (Option Bool)))))))

abbrev PublishSubscribeFit : PublishSubscribeParts → Type 0
PublishSubscribeFit p = IfSome p.first IsNumber × (IfSome p.second.first IsNumber × (IfSome p.second.second.first IsNumber
    × (IfSome p.second.second.second.first IsNumber × (IfSome p.second.second.second.second.first IsNumber
    × (IfSome p.second.second.second.second.second.first IsNumber
    × (Any p.second.second.second.second.second.second.first × Any p.second.second.second.second.second.second.second))))))

abbrev publish_subscribe_sum : PublishSubscribeParts → ℕ
publish_subscribe_sum p = one p.first + (one p.second.first + (one p.second.second.first + (one p.second.second.second.first
    + (one p.second.second.second.second.first + (one p.second.second.second.second.second.first
    + (one p.second.second.second.second.second.second.first + one p.second.second.second.second.second.second.second))))))

publish_subscribe_same_sum : (p : PublishSubscribeParts) → publish_subscribe_count (publish_subscribe_options p) ≡ publish_subscribe_sum p
publish_subscribe_same_sum p = omega arith

publish_subscribe_reads : Reads publish_subscribe_keys publish_subscribe_parts
    (λ p. publish_subscribe_values (publish_subscribe_options p)) PublishSubscribeFit publish_subscribe_sum
publish_subscribe_reads = next number (codes "subscribers=") (next number (codes "publishers=") (next number (codes "nodes=")
    (next number (codes "buffer=") (next number (codes "borrowed=") (next number (codes "history=")
    (next switch (codes "overflow=") (last switch (codes "sequence="))))))))

-- words that are read as the options of a publish-subscribe service write them
pub publish_subscribe_some : (ws : List (List ℕ)) (o : PublishSubscribeOptions) → publish_subscribe_of ws ≡ Some o
    → PublishSubscribeFits o × AnyOrder ws (option_words publish_subscribe_keys (publish_subscribe_values o))
publish_subscribe_some = options_some publish_subscribe_keys publish_subscribe_parts publish_subscribe_values PublishSubscribeFit
    publish_subscribe_sum PublishSubscribeFits publish_subscribe_options publish_subscribe_count publish_subscribe_reads
    (λ p f. (f.0, f.1.0, f.1.1.0, f.1.1.1.0, f.1.1.1.1.0, f.1.1.1.1.1.0)) publish_subscribe_same_sum refl

-- the options of a publish-subscribe service are read from words that write them, in any order
pub publish_subscribe_own : (ws : List (List ℕ)) (o : PublishSubscribeOptions) → PublishSubscribeFits o
    → AnyOrder ws (option_words publish_subscribe_keys (publish_subscribe_values o))
    → publish_subscribe_of ws ≡ Some o
publish_subscribe_own ws o f w =
    options_own publish_subscribe_keys publish_subscribe_parts publish_subscribe_values PublishSubscribeFit publish_subscribe_sum
    publish_subscribe_options publish_subscribe_count publish_subscribe_reads publish_subscribe_same_sum refl ws
    (both o.max_subscribers (both o.max_publishers (both o.max_nodes (both o.subscriber_max_buffer_size
    (both o.subscriber_max_borrowed_samples (both o.history_size
    (both o.enable_safe_overflow o.sequence_numbers)))))))
    refl (f.0, (f.1, (f.2, (f.3, (f.4, (f.5, (tt, tt))))))) w

-- ---- an event service

abbrev EventParts : Type 0
EventParts = Pair (Option ℕ) (Pair (Option ℕ) (Pair (Option ℕ) (Pair (Option ℕ) (Pair (Option NumberOrOff)
    (Pair (Option NumberOrOff) (Pair (Option NumberOrOff) (Option NumberOrOff)))))))

abbrev EventFit : EventParts → Type 0
EventFit p = IfSome p.first IsNumber
    × (IfSome p.second.first IsNumber × (IfSome p.second.second.first IsNumber × (IfSome p.second.second.second.first IsNumber
    × (IfSome p.second.second.second.second.first IsNumberOrOff × (IfSome p.second.second.second.second.second.first IsNumberOrOff
    × (IfSome p.second.second.second.second.second.second.first IsNumberOrOff
    × IfSome p.second.second.second.second.second.second.second IsNumberOrOff))))))

abbrev event_sum : EventParts → ℕ
event_sum p = one p.first + (one p.second.first + (one p.second.second.first + (one p.second.second.second.first
    + (one p.second.second.second.second.first + (one p.second.second.second.second.second.first
    + (one p.second.second.second.second.second.second.first + one p.second.second.second.second.second.second.second))))))

event_same_sum : (p : EventParts) → event_count (event_options p) ≡ event_sum p
event_same_sum p = omega arith

event_reads : Reads event_keys event_parts (λ p. event_values (event_options p)) EventFit event_sum
event_reads = next number (codes "notifiers=") (next number (codes "listeners=") (next number (codes "nodes=")
    (next number (codes "maxid=") (next number_or_off (codes "deadline=") (next number_or_off (codes "created=")
    (next number_or_off (codes "dropped=") (last number_or_off (codes "dead="))))))))

-- words that are read as the options of an event service write them
pub event_some : (ws : List (List ℕ)) (o : EventOptions) → event_of ws ≡ Some o
    → EventFits o × AnyOrder ws (option_words event_keys (event_values o))
event_some = options_some event_keys event_parts event_values EventFit event_sum EventFits event_options event_count event_reads
    (λ p f. (f.0, f.1.0, f.1.1.0, f.1.1.1.0, f.1.1.1.1.0, f.1.1.1.1.1.0, f.1.1.1.1.1.1.0, f.1.1.1.1.1.1.1)) event_same_sum refl

-- the options of an event service are read from words that write them, in any order
pub event_own : (ws : List (List ℕ)) (o : EventOptions) → EventFits o → AnyOrder ws (option_words event_keys (event_values o))
    → event_of ws ≡ Some o
event_own ws o f w =
    options_own event_keys event_parts event_values EventFit event_sum event_options event_count event_reads event_same_sum refl ws
    (both o.max_notifiers (both o.max_listeners (both o.max_nodes (both o.event_id_max_value (both o.deadline
    (both o.notifier_created_event (both o.notifier_dropped_event o.notifier_dead_event)))))))
    refl (f.0, (f.1, (f.2, (f.3, (f.4, (f.5, (f.6, f.7))))))) w

-- ---- a request-response service

abbrev RequestResponseParts : Type 0
RequestResponseParts = Pair (Option ℕ) (Pair (Option ℕ) (Pair (Option ℕ) (Pair (Option ℕ) (Pair (Option ℕ) (Pair (Option ℕ)
    (Pair (Option ℕ) (Pair (Option Bool) (Pair (Option Bool) (Option Bool)))))))))

abbrev RequestResponseFit : RequestResponseParts → Type 0
RequestResponseFit p = IfSome p.first IsNumber × (IfSome p.second.first IsNumber × (IfSome p.second.second.first IsNumber
    × (IfSome p.second.second.second.first IsNumber × (IfSome p.second.second.second.second.first IsNumber
    × (IfSome p.second.second.second.second.second.first IsNumber × (IfSome p.second.second.second.second.second.second.first IsNumber
    × (Any p.second.second.second.second.second.second.second.first
    × (Any p.second.second.second.second.second.second.second.second.first
    × Any p.second.second.second.second.second.second.second.second.second))))))))

abbrev request_response_sum : RequestResponseParts → ℕ
request_response_sum p = one p.first + (one p.second.first + (one p.second.second.first + (one p.second.second.second.first
    + (one p.second.second.second.second.first + (one p.second.second.second.second.second.first
    + (one p.second.second.second.second.second.second.first + (one p.second.second.second.second.second.second.second.first
    + (one p.second.second.second.second.second.second.second.second.first
    + one p.second.second.second.second.second.second.second.second.second))))))))

request_response_same_sum : (p : RequestResponseParts) → request_response_count (request_response_options p) ≡ request_response_sum p
request_response_same_sum p = omega arith

request_response_reads : Reads request_response_keys request_response_parts (λ p. request_response_values (request_response_options p))
    RequestResponseFit request_response_sum
request_response_reads = next number (codes "servers=") (next number (codes "clients=") (next number (codes "nodes=")
    (next number (codes "buffer=") (next number (codes "borrowed=") (next number (codes "active=") (next number (codes "loans=")
    (next switch (codes "overflow_requests=") (next switch (codes "overflow_responses=") (last switch (codes "fire="))))))))))

-- words that are read as the options of a request-response service write them
pub request_response_some : (ws : List (List ℕ)) (o : RequestResponseOptions) → request_response_of ws ≡ Some o
    → RequestResponseFits o × AnyOrder ws (option_words request_response_keys (request_response_values o))
request_response_some = options_some request_response_keys request_response_parts request_response_values RequestResponseFit
    request_response_sum RequestResponseFits request_response_options request_response_count request_response_reads
    (λ p f. (f.0, f.1.0, f.1.1.0, f.1.1.1.0, f.1.1.1.1.0, f.1.1.1.1.1.0, f.1.1.1.1.1.1.0)) request_response_same_sum refl

-- the options of a request-response service are read from words that write them, in any order
pub request_response_own : (ws : List (List ℕ)) (o : RequestResponseOptions) → RequestResponseFits o
    → AnyOrder ws (option_words request_response_keys (request_response_values o))
    → request_response_of ws ≡ Some o
request_response_own ws o f w =
    options_own request_response_keys request_response_parts request_response_values RequestResponseFit request_response_sum
    request_response_options request_response_count request_response_reads request_response_same_sum refl ws
    (both o.max_servers (both o.max_clients (both o.max_nodes (both o.max_response_buffer_size
    (both o.max_borrowed_responses_per_pending_response (both o.max_active_requests_per_client (both o.max_loaned_requests
    (both o.enable_safe_overflow_for_requests (both o.enable_safe_overflow_for_responses o.enable_fire_and_forget_requests)))))))))
    refl (f.0, (f.1, (f.2, (f.3, (f.4, (f.5, (f.6, (tt, (tt, tt))))))))) w
