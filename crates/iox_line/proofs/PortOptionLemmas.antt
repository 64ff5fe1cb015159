-- Words that are read as the options of a port write them, and what writes them is read, in any order.
use Rattle.std.proofs.Common.{◌≡◌, ℕ, ◌+◌, ◌==◌, Bool, true, false, List, [], ◌∷◌, Option, None, Some, refl, cond, sym, ap, ◌∙◌, subst}
use Rattle.std.proofs.Common.{length, decimal, codes, arith, eqb-true}
use Rattle.std.specs.Option.{option_map}
use Rattle.std.proofs.lemmas.Grind.{common_steps}
use Rattle.iox_command.specs.declared.port.PublisherOptions.{PublisherOptions}
use Rattle.iox_command.specs.declared.port.SubscriberOptions.{SubscriberOptions}
use Rattle.iox_domain_values.specs.declared.backpressure_strategy.BackpressureStrategy.{BackpressureStrategy}
use Rattle.iox_domain_values.specs.declared.backpressure_strategy.BackpressureStrategy.TheVariants as strategy
use Rattle.iox_domain_values.specs.declared.data_segment.AllocationStrategy.{AllocationStrategy}
use Rattle.iox_domain_values.specs.declared.data_segment.AllocationStrategy.TheVariants as allocation
use Rattle.iox_domain_values.specs.declared.backpressure.BackpressureAction.{BackpressureAction}
use Rattle.iox_domain_values.specs.declared.backpressure.BackpressureAction.TheVariants as handler
use Rattle.iox_domain_values.specs.declared.degradation.DegradationAction.{DegradationAction}
use Rattle.iox_domain_values.specs.declared.degradation.DegradationAction.TheVariants as degradation
use Rattle.iox_line.specs.Numbers.{IsNumber, number_of}
use Rattle.iox_line.specs.Options.{AnyOrder, find, named, count, one}
use Rattle.iox_line.specs.Values.{degradation_word, strategies, allocations, handlers}
use Rattle.iox_line.proofs.Shorthands.{strategy_word, allocation_word, handler_word}
use Rattle.iox_line.specs.Values.{degradations, strategy_of, allocation_of, handler_of, degradation_of}
use Rattle.iox_line.proofs.NumberLemmas.{number_some, number_own}
use Rattle.iox_line.proofs.ChoiceLemmas.{choice_some, named_some, named_own, IfThere}
use Rattle.iox_line.proofs.OptionLemmas.{options_sound, options_complete}
use Rattle.iox_line.specs.Reading.{bind, publisher_of, subscriber_of, publisher_options, subscriber_options}
use Rattle.iox_line.proofs.Shorthands.{publisher_keys, publisher_values, publisher_words, subscriber_keys, subscriber_values}
use Rattle.iox_line.proofs.Shorthands.{subscriber_words}
use Rattle.std.specs.Prelude.{IfSome}
use Rattle.iox_line.proofs.Shorthands.{PublisherFits}

-- a subscriber's number has 64 bits
abbrev pub SubscriberFits : SubscriberOptions → Type 0
SubscriberFits o = IfSome o.buffer_size IsNumber

-- of what is made of what is read, what is read
pub bind_some : {X Y : Type 0} (x : Option X) (make : X → Option Y) (y : Y) → bind x make ≡ Some y → (a : X) × (x ≡ Some a)
    × (make a ≡ Some y)
bind_some None make y h = cc
bind_some (Some a) make y h = (a, refl, h)

whole_at : {X : Type 0} (n m : ℕ) (r o : X) (t : Bool) → (n == m) ≡ t → cond t (Some r) None ≡ Some o → (n ≡ m) × (r ≡ o)
whole_at n m r o true e h = (eqb-true n m e, cc)
whole_at n m r o false e h = cc

whole_own : {X : Type 0} (n m : ℕ) (o : X) → n ≡ m → cond (n == m) (Some o) None ≡ Some o
whole_own n m o h = grind (arith, common_steps, h)

if_number : (o : Option ℕ) → IfThere IsNumber o → IfSome o IsNumber
if_number None g = tt
if_number (Some n) g = g

there_number : (o : Option ℕ) → IfSome o IsNumber → IfThere IsNumber o
there_number None g = tt
there_number (Some n) g = g

there_any : {X : Type 0} (o : Option X) → IfThere (λ v. Unit {0}) o
there_any None = tt
there_any (Some x) = tt

count_map : {X : Type 0} (text : X → List ℕ) (o : Option X) (values : List (Option (List ℕ)))
    → count (option_map text o ∷ values) ≡ one o + count values
count_map text None values = omega arith
count_map text (Some x) values = refl

strategy_some : (w : List ℕ) (a : BackpressureStrategy) → strategy_of w ≡ Some a → Unit {0} × (w ≡ strategy_word a)
strategy_some w a h = (tt, choice_some strategy_word strategies w a (refl, (refl, tt)) h)

strategy_own : (a : BackpressureStrategy) → Unit {0} → strategy_of (strategy_word a) ≡ Some a
strategy_own strategy.RetryUntilDelivered g = refl
strategy_own strategy.DiscardData g = refl

allocation_some : (w : List ℕ) (a : AllocationStrategy) → allocation_of w ≡ Some a → Unit {0} × (w ≡ allocation_word a)
allocation_some w a h = (tt, choice_some allocation_word allocations w a (refl, (refl, (refl, tt))) h)

allocation_own : (a : AllocationStrategy) → Unit {0} → allocation_of (allocation_word a) ≡ Some a
allocation_own allocation.Static g = refl
allocation_own allocation.BestFit g = refl
allocation_own allocation.PowerOfTwo g = refl

handler_some : (w : List ℕ) (a : BackpressureAction) → handler_of w ≡ Some a → Unit {0} × (w ≡ handler_word a)
handler_some w a h = (tt, choice_some handler_word handlers w a (refl, (refl, (refl, (refl, tt)))) h)

handler_own : (a : BackpressureAction) → Unit {0} → handler_of (handler_word a) ≡ Some a
handler_own handler.FollowBackpressureyStrategy g = refl
handler_own handler.Retry g = refl
handler_own handler.DiscardData g = refl
handler_own handler.DiscardDataAndFail g = refl

degradation_some : (w : List ℕ) (a : DegradationAction) → degradation_of w ≡ Some a → Unit {0} × (w ≡ degradation_word a)
degradation_some w a h = (tt, choice_some degradation_word degradations w a (refl, (refl, (refl, tt))) h)

degradation_own : (a : DegradationAction) → Unit {0} → degradation_of (degradation_word a) ≡ Some a
degradation_own degradation.Ignore g = refl
degradation_own degradation.Warn g = refl
degradation_own degradation.DegradeAndFail g = refl

publisher_count : (o : PublisherOptions)
    → one o.max_loaned_samples + one o.backpressure_strategy + one o.preallocated_samples + one o.initial_max_slice_len + one
    o.allocation_strategy + one o.backpressure_handler + one o.degradation_handler ≡ count (publisher_values o)
publisher_count o = omega (
  arith,
  count_map decimal o.max_loaned_samples
      (option_map strategy_word o.backpressure_strategy ∷ option_map decimal o.preallocated_samples
      ∷ option_map decimal o.initial_max_slice_len ∷ option_map allocation_word o.allocation_strategy
      ∷ option_map handler_word o.backpressure_handler ∷ option_map degradation_word o.degradation_handler ∷ []),
  count_map strategy_word o.backpressure_strategy
      (option_map decimal o.preallocated_samples ∷ option_map decimal o.initial_max_slice_len
      ∷ option_map allocation_word o.allocation_strategy ∷ option_map handler_word o.backpressure_handler
      ∷ option_map degradation_word o.degradation_handler ∷ []),
  count_map decimal o.preallocated_samples
      (option_map decimal o.initial_max_slice_len ∷ option_map allocation_word o.allocation_strategy
      ∷ option_map handler_word o.backpressure_handler ∷ option_map degradation_word o.degradation_handler ∷ []),
  count_map decimal o.initial_max_slice_len
      (option_map allocation_word o.allocation_strategy ∷ option_map handler_word o.backpressure_handler
      ∷ option_map degradation_word o.degradation_handler ∷ []),
  count_map allocation_word o.allocation_strategy
      (option_map handler_word o.backpressure_handler ∷ option_map degradation_word o.degradation_handler ∷ []),
  count_map handler_word o.backpressure_handler (option_map degradation_word o.degradation_handler ∷ []),
  count_map degradation_word o.degradation_handler ([]),
)

subscriber_count : (o : SubscriberOptions) → one o.buffer_size + one o.degradation_handler ≡ count (subscriber_values o)
subscriber_count o = omega (
  arith,
  count_map decimal o.buffer_size (option_map degradation_word o.degradation_handler ∷ []),
  count_map degradation_word o.degradation_handler ([]),
)

publisher_7 : (ws : List (List ℕ)) (o : PublisherOptions) (a : Option ℕ) (b : Option BackpressureStrategy) (c : Option ℕ) (d : Option ℕ)
    (e : Option AllocationStrategy) (f : Option BackpressureAction) (g : Option DegradationAction)
    → named number_of (find (codes "loans=") ws) ≡ Some a
    → named strategy_of (find (codes "strategy=") ws) ≡ Some b
    → named number_of (find (codes "slots=") ws) ≡ Some c
    → named number_of (find (codes "slice=") ws) ≡ Some d
    → named allocation_of (find (codes "alloc=") ws) ≡ Some e
    → named handler_of (find (codes "handler=") ws) ≡ Some f
    → named degradation_of (find (codes "degrade=") ws) ≡ Some g
    → cond (length ws == one a + one b + one c + one d + one e + one f + one g) (Some (publisher_options a b c d e f g)) None ≡ Some o
    → PublisherFits o × AnyOrder ws (publisher_words o)
publisher_7 ws o a b c d e f g ea eb ec ed ee ef eg h =
    let a1 = named_some number_of decimal IsNumber number_some (find (codes "loans=") ws) a ea in
    let b1 = named_some strategy_of strategy_word (λ v. Unit {0}) strategy_some (find (codes "strategy=") ws) b eb in
    let c1 = named_some number_of decimal IsNumber number_some (find (codes "slots=") ws) c ec in
    let d1 = named_some number_of decimal IsNumber number_some (find (codes "slice=") ws) d ed in
    let e1 = named_some allocation_of allocation_word (λ v. Unit {0}) allocation_some (find (codes "alloc=") ws) e ee in
    let f1 = named_some handler_of handler_word (λ v. Unit {0}) handler_some (find (codes "handler=") ws) f ef in
    let g1 = named_some degradation_of degradation_word (λ v. Unit {0}) degradation_some (find (codes "degrade=") ws) g eg in
    let z = whole_at (length ws) (one a + one b + one c + one d + one e + one f + one g) (publisher_options a b c d e f g) o
    (length ws == (one a + one b + one c + one d + one e + one f + one g)) refl h in
    subst (λ q. PublisherFits q × AnyOrder ws (publisher_words q)) z.1 (
      (if_number a a1.0, if_number c c1.0, if_number d d1.0),
      options_sound publisher_keys
          (publisher_values (publisher_options a b c d e f g)) ws refl (a1.1, (b1.1, (c1.1, (d1.1, (e1.1, (f1.1, (g1.1, tt)))))))
          (z.0 ∙ publisher_count (publisher_options a b c d e f g)),
    )

publisher_6 : (ws : List (List ℕ)) (o : PublisherOptions) (a : Option ℕ) (b : Option BackpressureStrategy) (c : Option ℕ) (d : Option ℕ)
    (e : Option AllocationStrategy) (f : Option BackpressureAction)
    → named number_of (find (codes "loans=") ws) ≡ Some a
    → named strategy_of (find (codes "strategy=") ws) ≡ Some b
    → named number_of (find (codes "slots=") ws) ≡ Some c
    → named number_of (find (codes "slice=") ws) ≡ Some d
    → named allocation_of (find (codes "alloc=") ws) ≡ Some e
    → named handler_of (find (codes "handler=") ws) ≡ Some f
    → bind (named degradation_of (find (codes "degrade=") ws))
    (λ g. cond (length ws == one a + one b + one c + one d + one e + one f + one g) (Some (publisher_options a b c d e f g)) None)
    ≡ Some o → PublisherFits o × AnyOrder ws (publisher_words o)
publisher_6 ws o a b c d e f ea eb ec ed ee ef h =
    let r = bind_some (named degradation_of (find (codes "degrade=") ws))
    (λ g. cond (length ws == one a + one b + one c + one d + one e + one f + one g) (Some (publisher_options a b c d e f g)) None) o
    h in
    publisher_7 ws o a b c d e f r.0 ea eb ec ed ee ef r.1 r.2

publisher_5 : (ws : List (List ℕ)) (o : PublisherOptions) (a : Option ℕ) (b : Option BackpressureStrategy) (c : Option ℕ) (d : Option ℕ)
    (e : Option AllocationStrategy)
    → named number_of (find (codes "loans=") ws) ≡ Some a
    → named strategy_of (find (codes "strategy=") ws) ≡ Some b
    → named number_of (find (codes "slots=") ws) ≡ Some c
    → named number_of (find (codes "slice=") ws) ≡ Some d
    → named allocation_of (find (codes "alloc=") ws) ≡ Some e
    → bind (named handler_of (find (codes "handler=") ws))
    (λ f. bind (named degradation_of (find (codes "degrade=") ws))
    (λ g. cond (length ws == one a + one b + one c + one d + one e + one f + one g) (Some (publisher_options a b c d e f g)) None))
    ≡ Some o → PublisherFits o × AnyOrder ws (publisher_words o)
publisher_5 ws o a b c d e ea eb ec ed ee h =
    let r = bind_some (named handler_of (find (codes "handler=") ws))
    (λ f. bind (named degradation_of (find (codes "degrade=") ws))
    (λ g. cond (length ws == one a + one b + one c + one d + one e + one f + one g) (Some (publisher_options a b c d e f g)) None))
    o h in
    publisher_6 ws o a b c d e r.0 ea eb ec ed ee r.1 r.2

publisher_4 : (ws : List (List ℕ)) (o : PublisherOptions) (a : Option ℕ) (b : Option BackpressureStrategy) (c : Option ℕ) (d : Option ℕ)
    → named number_of (find (codes "loans=") ws) ≡ Some a
    → named strategy_of (find (codes "strategy=") ws) ≡ Some b
    → named number_of (find (codes "slots=") ws) ≡ Some c
    → named number_of (find (codes "slice=") ws) ≡ Some d
    → bind (named allocation_of (find (codes "alloc=") ws))
    (λ e. bind (named handler_of (find (codes "handler=") ws))
    (λ f. bind (named degradation_of (find (codes "degrade=") ws))
    (λ g. cond (length ws == one a + one b + one c + one d + one e + one f + one g) (Some (publisher_options a b c d e f g)) None)))
    ≡ Some o → PublisherFits o × AnyOrder ws (publisher_words o)
publisher_4 ws o a b c d ea eb ec ed h =
    let r = bind_some (named allocation_of (find (codes "alloc=") ws))
    (λ e. bind (named handler_of (find (codes "handler=") ws))
    (λ f. bind (named degradation_of (find (codes "degrade=") ws))
    (λ g. cond (length ws == one a + one b + one c + one d + one e + one f + one g) (Some (publisher_options a b c d e f g)) None)))
    o h in
    publisher_5 ws o a b c d r.0 ea eb ec ed r.1 r.2

publisher_3 : (ws : List (List ℕ)) (o : PublisherOptions) (a : Option ℕ) (b : Option BackpressureStrategy) (c : Option ℕ)
    → named number_of (find (codes "loans=") ws) ≡ Some a
    → named strategy_of (find (codes "strategy=") ws) ≡ Some b
    → named number_of (find (codes "slots=") ws) ≡ Some c
    → bind (named number_of (find (codes "slice=") ws))
    (λ d. bind (named allocation_of (find (codes "alloc=") ws))
    (λ e. bind (named handler_of (find (codes "handler=") ws))
    (λ f. bind (named degradation_of (find (codes "degrade=") ws))
    (λ g. cond (length ws == one a + one b + one c + one d + one e + one f + one g) (Some (publisher_options a b c d e f g))
    None)))) ≡ Some o → PublisherFits o × AnyOrder ws (publisher_words o)
publisher_3 ws o a b c ea eb ec h =
    let r = bind_some (named number_of (find (codes "slice=") ws))
    (λ d. bind (named allocation_of (find (codes "alloc=") ws))
    (λ e. bind (named handler_of (find (codes "handler=") ws))
    (λ f. bind (named degradation_of (find (codes "degrade=") ws))
    (λ g. cond (length ws == one a + one b + one c + one d + one e + one f + one g) (Some (publisher_options a b c d e f g))
    None)))) o h in
    publisher_4 ws o a b c r.0 ea eb ec r.1 r.2

publisher_2 : (ws : List (List ℕ)) (o : PublisherOptions) (a : Option ℕ) (b : Option BackpressureStrategy)
    → named number_of (find (codes "loans=") ws) ≡ Some a
    → named strategy_of (find (codes "strategy=") ws) ≡ Some b
    → bind (named number_of (find (codes "slots=") ws))
    (λ c. bind (named number_of (find (codes "slice=") ws))
    (λ d. bind (named allocation_of (find (codes "alloc=") ws))
    (λ e. bind (named handler_of (find (codes "handler=") ws))
    (λ f. bind (named degradation_of (find (codes "degrade=") ws))
    (λ g. cond (length ws == one a + one b + one c + one d + one e + one f + one g) (Some (publisher_options a b c d e f g))
    None))))) ≡ Some o → PublisherFits o × AnyOrder ws (publisher_words o)
publisher_2 ws o a b ea eb h =
    let r = bind_some (named number_of (find (codes "slots=") ws))
    (λ c. bind (named number_of (find (codes "slice=") ws))
    (λ d. bind (named allocation_of (find (codes "alloc=") ws))
    (λ e. bind (named handler_of (find (codes "handler=") ws))
    (λ f. bind (named degradation_of (find (codes "degrade=") ws))
    (λ g. cond (length ws == one a + one b + one c + one d + one e + one f + one g) (Some (publisher_options a b c d e f g))
    None))))) o h in
    publisher_3 ws o a b r.0 ea eb r.1 r.2

publisher_1 : (ws : List (List ℕ)) (o : PublisherOptions) (a : Option ℕ)
    → named number_of (find (codes "loans=") ws) ≡ Some a
    → bind (named strategy_of (find (codes "strategy=") ws))
    (λ b. bind (named number_of (find (codes "slots=") ws))
    (λ c. bind (named number_of (find (codes "slice=") ws))
    (λ d. bind (named allocation_of (find (codes "alloc=") ws))
    (λ e. bind (named handler_of (find (codes "handler=") ws))
    (λ f. bind (named degradation_of (find (codes "degrade=") ws))
    (λ g. cond (length ws == one a + one b + one c + one d + one e + one f + one g) (Some (publisher_options a b c d e f g))
    None)))))) ≡ Some o → PublisherFits o × AnyOrder ws (publisher_words o)
publisher_1 ws o a ea h =
    let r = bind_some (named strategy_of (find (codes "strategy=") ws))
    (λ b. bind (named number_of (find (codes "slots=") ws))
    (λ c. bind (named number_of (find (codes "slice=") ws))
    (λ d. bind (named allocation_of (find (codes "alloc=") ws))
    (λ e. bind (named handler_of (find (codes "handler=") ws))
    (λ f. bind (named degradation_of (find (codes "degrade=") ws))
    (λ g. cond (length ws == one a + one b + one c + one d + one e + one f + one g) (Some (publisher_options a b c d e f g))
    None)))))) o h in
    publisher_2 ws o a r.0 ea r.1 r.2

-- words that are read as the options of a publisher write them
pub publisher_some : (ws : List (List ℕ)) (o : PublisherOptions) → publisher_of ws ≡ Some o → PublisherFits o
    × AnyOrder ws (publisher_words o)
publisher_some ws o h =
    let r = bind_some (named number_of (find (codes "loans=") ws))
    (λ a. bind (named strategy_of (find (codes "strategy=") ws))
    (λ b. bind (named number_of (find (codes "slots=") ws))
    (λ c. bind (named number_of (find (codes "slice=") ws))
    (λ d. bind (named allocation_of (find (codes "alloc=") ws))
    (λ e. bind (named handler_of (find (codes "handler=") ws))
    (λ f. bind (named degradation_of (find (codes "degrade=") ws))
    (λ g. cond (length ws == one a + one b + one c + one d + one e + one f + one g) (Some (publisher_options a b c d e f g))
    None))))))) o h in
    publisher_1 ws o r.0 r.1 r.2

-- the options of a publisher are read from words that write them, in any order
pub publisher_own : (ws : List (List ℕ)) (o : PublisherOptions) → PublisherFits o → AnyOrder ws (publisher_words o)
    → publisher_of ws ≡ Some o
publisher_own ws o f w =
    let r = options_complete publisher_keys (publisher_values o) ws refl refl w in
    let l : length ws ≡ one o.max_loaned_samples + one o.backpressure_strategy + one o.preallocated_samples + one
    o.initial_max_slice_len + one o.allocation_strategy + one o.backpressure_handler + one o.degradation_handler
    = r.1 ∙ sym (publisher_count o) in
    let a1 : named number_of (find (codes "loans=") ws) ≡ Some o.max_loaned_samples
    = ap (λ x. named number_of x) r.0.0 ∙ named_own number_of decimal IsNumber number_own o.max_loaned_samples
    (there_number o.max_loaned_samples f.0) in
    let b1 : named strategy_of (find (codes "strategy=") ws) ≡ Some o.backpressure_strategy
    = ap (λ x. named strategy_of x) r.0.1.0 ∙ named_own strategy_of strategy_word (λ v. Unit {0}) strategy_own
    o.backpressure_strategy (there_any o.backpressure_strategy) in
    let c1 : named number_of (find (codes "slots=") ws) ≡ Some o.preallocated_samples
    = ap (λ x. named number_of x) r.0.1.1.0 ∙ named_own number_of decimal IsNumber number_own o.preallocated_samples
    (there_number o.preallocated_samples f.1) in
    let d1 : named number_of (find (codes "slice=") ws) ≡ Some o.initial_max_slice_len
    = ap (λ x. named number_of x) r.0.1.1.1.0 ∙ named_own number_of decimal IsNumber number_own o.initial_max_slice_len
    (there_number o.initial_max_slice_len f.2) in
    let e1 : named allocation_of (find (codes "alloc=") ws) ≡ Some o.allocation_strategy
    = ap (λ x. named allocation_of x) r.0.1.1.1.1.0 ∙ named_own allocation_of allocation_word (λ v. Unit {0}) allocation_own
    o.allocation_strategy (there_any o.allocation_strategy) in
    let f1 : named handler_of (find (codes "handler=") ws) ≡ Some o.backpressure_handler
    = ap (λ x. named handler_of x) r.0.1.1.1.1.1.0 ∙ named_own handler_of handler_word (λ v. Unit {0}) handler_own
    o.backpressure_handler (there_any o.backpressure_handler) in
    let g1 : named degradation_of (find (codes "degrade=") ws) ≡ Some o.degradation_handler
    = ap (λ x. named degradation_of x) r.0.1.1.1.1.1.1.0 ∙ named_own degradation_of degradation_word (λ v. Unit {0}) degradation_own
    o.degradation_handler (there_any o.degradation_handler) in
    ap (λ x. bind x (λ a. bind (named strategy_of (find (codes "strategy=") ws))
    (λ b. bind (named number_of (find (codes "slots=") ws))
    (λ c. bind (named number_of (find (codes "slice=") ws))
    (λ d. bind (named allocation_of (find (codes "alloc=") ws))
    (λ e. bind (named handler_of (find (codes "handler=") ws))
    (λ f. bind (named degradation_of (find (codes "degrade=") ws))
    (λ g. cond (length ws == one a + one b + one c + one d + one e + one f + one g) (Some (publisher_options a b c d e f g))
    None)))))))) a1
    ∙ ap (λ x. bind x (λ b. bind (named number_of (find (codes "slots=") ws))
    (λ c. bind (named number_of (find (codes "slice=") ws))
    (λ d. bind (named allocation_of (find (codes "alloc=") ws))
    (λ e. bind (named handler_of (find (codes "handler=") ws))
    (λ f. bind (named degradation_of (find (codes "degrade=") ws))
    (λ g. cond (length ws == one o.max_loaned_samples + one b + one c + one d + one e + one f + one g)
    (Some (publisher_options o.max_loaned_samples b c d e f g)) None))))))) b1
    ∙ ap (λ x. bind x (λ c. bind (named number_of (find (codes "slice=") ws))
    (λ d. bind (named allocation_of (find (codes "alloc=") ws))
    (λ e. bind (named handler_of (find (codes "handler=") ws))
    (λ f. bind (named degradation_of (find (codes "degrade=") ws))
    (λ g. cond (length ws == one o.max_loaned_samples + one o.backpressure_strategy + one c + one d + one e + one f + one g)
    (Some (publisher_options o.max_loaned_samples o.backpressure_strategy c d e f g)) None)))))) c1
    ∙ ap (λ x. bind x (λ d. bind (named allocation_of (find (codes "alloc=") ws))
    (λ e. bind (named handler_of (find (codes "handler=") ws))
    (λ f. bind (named degradation_of (find (codes "degrade=") ws))
    (λ g. cond (length ws == one o.max_loaned_samples + one o.backpressure_strategy + one o.preallocated_samples + one d + one e +
    one f + one g) (Some (publisher_options o.max_loaned_samples o.backpressure_strategy o.preallocated_samples d e f g)) None))))) d1
    ∙ ap (λ x. bind x (λ e. bind (named handler_of (find (codes "handler=") ws))
    (λ f. bind (named degradation_of (find (codes "degrade=") ws))
    (λ g. cond (length ws == one o.max_loaned_samples + one o.backpressure_strategy + one o.preallocated_samples + one
    o.initial_max_slice_len + one e + one f + one g)
    (Some (publisher_options o.max_loaned_samples o.backpressure_strategy o.preallocated_samples o.initial_max_slice_len e f g))
    None)))) e1
    ∙ ap (λ x. bind x (λ f. bind (named degradation_of (find (codes "degrade=") ws))
    (λ g. cond (length ws == one o.max_loaned_samples + one o.backpressure_strategy + one o.preallocated_samples + one
    o.initial_max_slice_len + one o.allocation_strategy + one f + one g)
    (Some (publisher_options o.max_loaned_samples o.backpressure_strategy o.preallocated_samples o.initial_max_slice_len
    o.allocation_strategy f g)) None))) f1
    ∙ ap (λ x. bind x (λ g. cond (length ws == one o.max_loaned_samples + one o.backpressure_strategy + one o.preallocated_samples + one
    o.initial_max_slice_len + one o.allocation_strategy + one o.backpressure_handler + one g)
    (Some (publisher_options o.max_loaned_samples o.backpressure_strategy o.preallocated_samples o.initial_max_slice_len
    o.allocation_strategy o.backpressure_handler g)) None)) g1
    ∙ whole_own (length ws) (one o.max_loaned_samples + one o.backpressure_strategy + one o.preallocated_samples + one
    o.initial_max_slice_len + one o.allocation_strategy + one o.backpressure_handler + one o.degradation_handler) o l

subscriber_2 : (ws : List (List ℕ)) (o : SubscriberOptions) (a : Option ℕ) (b : Option DegradationAction)
    → named number_of (find (codes "buffer=") ws) ≡ Some a
    → named degradation_of (find (codes "degrade=") ws) ≡ Some b
    → cond (length ws == one a + one b) (Some (subscriber_options a b)) None ≡ Some o → SubscriberFits o × AnyOrder ws (subscriber_words o)
subscriber_2 ws o a b ea eb h =
    let a1 = named_some number_of decimal IsNumber number_some (find (codes "buffer=") ws) a ea in
    let b1 = named_some degradation_of degradation_word (λ v. Unit {0}) degradation_some (find (codes "degrade=") ws) b eb in
    let z = whole_at (length ws) (one a + one b) (subscriber_options a b) o (length ws == (one a + one b)) refl h in
    subst (λ q. SubscriberFits q × AnyOrder ws (subscriber_words q)) z.1 (
      if_number a a1.0,
      options_sound subscriber_keys (subscriber_values (subscriber_options a b)) ws refl (a1.1, (b1.1, tt))
          (z.0 ∙ subscriber_count (subscriber_options a b)),
    )

subscriber_1 : (ws : List (List ℕ)) (o : SubscriberOptions) (a : Option ℕ)
    → named number_of (find (codes "buffer=") ws) ≡ Some a
    → bind (named degradation_of (find (codes "degrade=") ws))
    (λ b. cond (length ws == one a + one b) (Some (subscriber_options a b)) None) ≡ Some o → SubscriberFits o
    × AnyOrder ws (subscriber_words o)
subscriber_1 ws o a ea h =
    let r = bind_some (named degradation_of (find (codes "degrade=") ws))
    (λ b. cond (length ws == one a + one b) (Some (subscriber_options a b)) None) o h in
    subscriber_2 ws o a r.0 ea r.1 r.2

-- words that are read as the options of a subscriber write them
pub subscriber_some : (ws : List (List ℕ)) (o : SubscriberOptions) → subscriber_of ws ≡ Some o → SubscriberFits o
    × AnyOrder ws (subscriber_words o)
subscriber_some ws o h =
    let r = bind_some (named number_of (find (codes "buffer=") ws))
    (λ a. bind (named degradation_of (find (codes "degrade=") ws))
    (λ b. cond (length ws == one a + one b) (Some (subscriber_options a b)) None)) o h in
    subscriber_1 ws o r.0 r.1 r.2

-- the options of a subscriber are read from words that write them, in any order
pub subscriber_own : (ws : List (List ℕ)) (o : SubscriberOptions) → SubscriberFits o → AnyOrder ws (subscriber_words o)
    → subscriber_of ws ≡ Some o
subscriber_own ws o f w =
    let r = options_complete subscriber_keys (subscriber_values o) ws refl refl w in
    let l : length ws ≡ one o.buffer_size + one o.degradation_handler = r.1 ∙ sym (subscriber_count o) in
    let a1 : named number_of (find (codes "buffer=") ws) ≡ Some o.buffer_size
    = ap (λ x. named number_of x) r.0.0 ∙ named_own number_of decimal IsNumber number_own o.buffer_size
    (there_number o.buffer_size f) in
    let b1 : named degradation_of (find (codes "degrade=") ws) ≡ Some o.degradation_handler
    = ap (λ x. named degradation_of x) r.0.1.0 ∙ named_own degradation_of degradation_word (λ v. Unit {0}) degradation_own
    o.degradation_handler (there_any o.degradation_handler) in
    ap (λ x. bind x (λ a. bind (named degradation_of (find (codes "degrade=") ws))
    (λ b. cond (length ws == one a + one b) (Some (subscriber_options a b)) None))) a1
    ∙ ap (λ x. bind x (λ b. cond (length ws == one o.buffer_size + one b) (Some (subscriber_options o.buffer_size b)) None)) b1
    ∙ whole_own (length ws) (one o.buffer_size + one o.degradation_handler) o l
