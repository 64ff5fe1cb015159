-- Words that are read as steps write them, and what writes them is read.
use Rattle.std.proofs.Common.{◌≡◌, ℕ, ◌<◌, true, List, [], ◌∷◌, ◌++◌, Option, None, Some, refl, sym, ap, ◌∙◌, subst, codes, arith, length}
use Rattle.std.specs.Option.{option_map}
use Rattle.std.proofs.lemmas.List.{append-nil}
use Rattle.std.specs.List.{join_with_byte}
use Rattle.iox_command.specs.DescribeBase.declared.pattern.MessagingPattern.{MessagingPattern}
use Rattle.iox_command.specs.declared.service.ServiceOptions.{ServiceOptions}
use Rattle.iox_command.specs.declared.step.ForeignStep.{ForeignStep}
use Rattle.iox_command.specs.declared.step.ForeignStep.TheVariants as step
use Rattle.iox_command.specs.Patterns.{pattern_of}
use Rattle.iox_line.specs.Words.{AreWritten, lacks, pieces_of, pieces_left, before, beyond}
use Rattle.iox_line.specs.Numbers.{IsNumber, tag, tagged}
use Rattle.iox_line.specs.Options.{AnyOrder}
use Rattle.iox_line.specs.Memory.{prepend}
use Rattle.iox_line.proofs.WordLemmas.{whole, whole_text, before-separated, beyond-separated, before-alone, beyond-alone}
use Rattle.iox_line.proofs.SpacedLemmas.{joined-pieces_of, pieces_some, pieces_of-joined}
use Rattle.iox_line.proofs.MarkLemmas.{all_anyhow}
use Rattle.iox_line.proofs.NumberLemmas.{tagged_some, tagged_own, decimal_lacks}
use Rattle.iox_line.proofs.ChoiceLemmas.{choice_some, map_some}
use Rattle.iox_line.specs.Services.{service_words, ServiceFits}
use Rattle.iox_line.specs.ServicesReading.{options_of}
use Rattle.iox_line.proofs.ServiceLemmas.{options_some, options_own}
use Rattle.iox_line.proofs.NoSpaceLemmas.{service_lack_commas}
use Rattle.iox_line.specs.declared.steps.step.StepVerb.{StepVerb}
use Rattle.iox_line.specs.declared.steps.step.StepVerb.TheVariants as verb
use Rattle.iox_line.specs.Steps.{WritesStep, StepFits}
use Rattle.iox_line.specs.StepsReading.{step_verb_word, step_verbs, step_verb_of, node_and_options, published, step_at, step_with, step_of}
use Rattle.iox_line.specs.StepsReading.{each_step, steps_of}
use Rattle.iox_line.proofs.Shorthands.{AllLack, AllOf, WritesSteps, option_tail}

-- a step without options

one_node : (pattern : MessagingPattern) (make : ℕ → ForeignStep) (front text : List ℕ) (s : ForeignStep)
    → ((n : ℕ) → IsNumber n → StepFits pattern (make n)) → ((n : ℕ) → WritesStep (make n) (front ++ tag 120 n))
    → option_map make (tagged 120 text) ≡ Some s → StepFits pattern s × WritesStep s (front ++ text)
one_node pattern make front text s fits writes h =
    let m = map_some make (tagged 120 text) s h in
    let n = tagged_some 120 text m.0 m.1 in
    subst (λ q. StepFits pattern q × WritesStep q (front ++ text)) m.2
    (fits m.0 n.0, subst (λ l. WritesStep (make m.0) (front ++ l)) (sym n.1) (writes m.0))

-- publishing

parts_some : (x : Option ℕ) (y : Option ServiceOptions) (p : ℕ × ServiceOptions) → node_and_options x y ≡ Some p
    → (x ≡ Some p.0) × (y ≡ Some p.1)
parts_some None y p h = cc
parts_some (Some n) None p h = cc
parts_some (Some n) (Some o) p h = let e : (n, o) ≡ p = cc in (ap (λ q. Some q.0) e, ap (λ q. Some q.1) e)

tail_at : (ws : List (List ℕ)) (w : List ℕ) (vs : List (List ℕ)) → ws ≡ w ∷ vs → option_tail ws ≡ 58 ∷ join_with_byte 44 ws
tail_at ws w vs h = ap option_tail h ∙ ap (λ l. 58 ∷ join_with_byte 44 l) (sym h)

tail_text : (front : List ℕ) (o : Option (List ℕ)) → whole 58 front o ≡ front ++ option_tail (pieces_left 44 o)
tail_text front None = sym (append-nil front)
tail_text front (Some text) = let p
    = pieces_some 44 text in ap (λ l. front ++ l)
    (ap (λ l. 58 ∷ l) (sym (joined-pieces_of 44 text)) ∙ sym (tail_at (pieces_of 44 text) p.0 p.1 p.2))

published_some : (pattern : MessagingPattern) (text : List ℕ) (p : ℕ × ServiceOptions) → published pattern text ≡ Some p
    → (IsNumber p.0 × ServiceFits p.1 × (pattern ≡ pattern_of p.1))
    × ((chosen : List (List ℕ)) × AnyOrder chosen (service_words p.1) × (text ≡ tag 120 p.0 ++ option_tail chosen))
published_some pattern text p h =
    let m = parts_some (tagged 120 (before 58 text)) (options_of pattern (pieces_left 44 (beyond 58 text))) p h in
    let n = tagged_some 120 (before 58 text) p.0 m.0 in
    let o = options_some pattern (pieces_left 44 (beyond 58 text)) p.1 m.1 in
    let chosen = pieces_left 44 (beyond 58 text) in
    let written : text ≡ tag 120 p.0 ++ option_tail chosen
    = whole_text 58 text ∙ tail_text (before 58 text) (beyond 58 text) ∙ ap (λ l. l ++ option_tail chosen) n.1 in
    ((n.0, o.0, o.2), (chosen, o.1, written))

publish_some : (pattern : MessagingPattern) (text : List ℕ) (s : ForeignStep)
    → option_map (λ p. step.Publish p.0 p.1) (published pattern text) ≡ Some s
    → StepFits pattern s × WritesStep s (codes "publish:" ++ text)
publish_some pattern text s h =
    let m = map_some (λ p. step.Publish p.0 p.1) (published pattern text) s h in
    let r = published_some pattern text m.0 m.1 in
    subst (λ q. StepFits pattern q × WritesStep q (codes "publish:" ++ text)) m.2
    (r.0, (r.1.0, r.1.1, ap (λ l. codes "publish:" ++ l) r.1.2))

publish_v1_some : (pattern : MessagingPattern) (text : List ℕ) (s : ForeignStep)
    → option_map (λ p. step.PublishV1 p.0 p.1) (published pattern text) ≡ Some s
    → StepFits pattern s × WritesStep s (codes "publish1:" ++ text)
publish_v1_some pattern text s h =
    let m = map_some (λ p. step.PublishV1 p.0 p.1) (published pattern text) s h in
    let r = published_some pattern text m.0 m.1 in
    subst (λ q. StepFits pattern q × WritesStep q (codes "publish1:" ++ text)) m.2
    (r.0, (r.1.0, r.1.1, ap (λ l. codes "publish1:" ++ l) r.1.2))

tag_lacks : (n : ℕ) → IsNumber n → lacks 58 (tag 120 n) ≡ true
tag_lacks n f = decimal_lacks 58 n refl f

tail_own : (n : ℕ) (chosen : List (List ℕ)) → IsNumber n → AllLack 44 chosen → (before 58 (tag 120 n ++ option_tail chosen) ≡ tag 120 n)
    × (pieces_left 44 (beyond 58 (tag 120 n ++ option_tail chosen)) ≡ chosen)
tail_own n [] f l = (
  ap (λ t. before 58 t) (append-nil (tag 120 n)) ∙ before-alone 58 (tag 120 n) (tag_lacks n f),
  ap (λ t. pieces_left 44 (beyond 58 t)) (append-nil (tag 120 n)) ∙ ap (λ o. pieces_left 44 o)
      (beyond-alone 58 (tag 120 n) (tag_lacks n f)),
)
tail_own n (w ∷ ws) f l = (
  before-separated 58 (tag 120 n) (join_with_byte 44 (w ∷ ws)) (tag_lacks n f),
  ap (λ o. pieces_left 44 o) (beyond-separated 58 (tag 120 n) (join_with_byte 44 (w ∷ ws)) (tag_lacks n f)) ∙ pieces_of-joined 44 w ws l,
)

published_own : (n : ℕ) (o : ServiceOptions) (chosen : List (List ℕ)) → IsNumber n → ServiceFits o → AnyOrder chosen (service_words o)
    → published (pattern_of o) (tag 120 n ++ option_tail chosen) ≡ Some (n, o)
published_own n o chosen f g a =
    let t = tail_own n chosen f (all_anyhow (λ w. lacks 44 w ≡ true) chosen (service_words o) a (service_lack_commas o g)) in
    ap (λ x. node_and_options (tagged 120 x)
    (options_of (pattern_of o) (pieces_left 44 (beyond 58 (tag 120 n ++ option_tail chosen))))) t.0
    ∙ ap (λ x. node_and_options (tagged 120 (tag 120 n)) (options_of (pattern_of o) x)) t.1
    ∙ ap (λ x. node_and_options x (options_of (pattern_of o) chosen)) (tagged_own 120 n f) ∙ ap (λ x. node_and_options (Some n) x)
    (options_own chosen o g a)

-- one step

at_some : (pattern : MessagingPattern) (v : StepVerb) (text : List ℕ) (s : ForeignStep) → step_at pattern v text ≡ Some s
    → StepFits pattern s × WritesStep s (step_verb_word v ++ 58 ∷ text)
at_some pattern verb.Lock text s h = one_node pattern (λ n. step.Lock n) (codes "lock:") text s (λ n f. f) (λ n. refl) h
at_some pattern verb.GiveUp text s h = one_node pattern (λ n. step.GiveUp n) (codes "giveup:") text s (λ n f. f) (λ n. refl) h
at_some pattern verb.Publish text s h = publish_some pattern text s h
at_some pattern verb.PublishV1 text s h = publish_v1_some pattern text s h
at_some pattern verb.Register text s h = one_node pattern (λ n. step.Register n) (codes "register:") text s (λ n f. f) (λ n. refl) h
at_some pattern verb.Leave text s h = one_node pattern (λ n. step.Leave n) (codes "leave:") text s (λ n f. f) (λ n. refl) h
at_some pattern verb.Remove text s h = one_node pattern (λ n. step.Remove n) (codes "remove:") text s (λ n f. f) (λ n. refl) h

verbs_written : AreWritten step_verb_word step_verbs
verbs_written = (refl, (refl, (refl, (refl, (refl, (refl, (refl, tt)))))))

with_some : (pattern : MessagingPattern) (w front : List ℕ) (v : Option StepVerb) (text : Option (List ℕ)) (s : ForeignStep)
    → step_verb_of front ≡ v → w ≡ whole 58 front text
    → step_with pattern v text ≡ Some s → StepFits pattern s × WritesStep s w
with_some pattern w front None text s e f h = cc
with_some pattern w front (Some v) None s e f h = cc
with_some pattern w front (Some v) (Some text) s e f h =
    let r = at_some pattern v text s h in (
      r.0,
      subst (λ l. WritesStep s l) (sym (f ∙ ap (λ l. l ++ 58 ∷ text) (choice_some step_verb_word step_verbs front v verbs_written e)))
          r.1,
    )

-- a word that is read as a step writes it
pub step_some : (pattern : MessagingPattern) (w : List ℕ) (s : ForeignStep) → step_of pattern w ≡ Some s → StepFits pattern s
    × WritesStep s w
step_some pattern w s h = with_some pattern w (before 58 w) (step_verb_of (before 58 w)) (beyond 58 w) s refl (whole_text 58 w) h

-- a step is read from a word that writes it
pub step_own : (pattern : MessagingPattern) (s : ForeignStep) (w : List ℕ) → StepFits pattern s → WritesStep s w
    → step_of pattern w ≡ Some s
step_own pattern (step.Lock n) w f e = ap (step_of pattern) e ∙ ap (option_map (λ m. step.Lock m)) (tagged_own 120 n f)
step_own pattern (step.GiveUp n) w f e = ap (step_of pattern) e ∙ ap (option_map (λ m. step.GiveUp m)) (tagged_own 120 n f)
step_own pattern (step.Publish n o) w f e =
    ap (λ p. step_of p w) f.2 ∙ ap (step_of (pattern_of o)) e.2 ∙ ap (option_map (λ p. step.Publish p.0 p.1))
    (published_own n o e.0 f.0 f.1 e.1)
step_own pattern (step.PublishV1 n o) w f e =
    ap (λ p. step_of p w) f.2 ∙ ap (step_of (pattern_of o)) e.2 ∙ ap (option_map (λ p. step.PublishV1 p.0 p.1))
    (published_own n o e.0 f.0 f.1 e.1)
step_own pattern (step.Register n) w f e = ap (step_of pattern) e ∙ ap (option_map (λ m. step.Register m)) (tagged_own 120 n f)
step_own pattern (step.Leave n) w f e = ap (step_of pattern) e ∙ ap (option_map (λ m. step.Leave m)) (tagged_own 120 n f)
step_own pattern (step.Remove n) w f e = ap (step_of pattern) e ∙ ap (option_map (λ m. step.Remove m)) (tagged_own 120 n f)

-- steps of a line of their own

-- of what stands before a list, what it is, and the list
pub prepend_some : {A : Type 0} (x : Option A) (y : Option (List A)) (l : List A) → prepend x y ≡ Some l → (a : A) × (rest : List A)
    × (x ≡ Some a) × (y ≡ Some rest) × (a ∷ rest ≡ l)
prepend_some None y l h = cc
prepend_some (Some a) None l h = cc
prepend_some (Some a) (Some rest) l h = (a, rest, refl, refl, cc)

each_some : (pattern : MessagingPattern) (ws : List (List ℕ)) (ss : List ForeignStep) → each_step pattern ws ≡ Some ss
    → AllOf (StepFits pattern) ss × WritesSteps ss ws
each_some pattern [] ss h = let same : [] ≡ ss = cc in subst (λ l. AllOf (StepFits pattern) l × WritesSteps l []) same (tt, tt)
each_some pattern (w ∷ ws) ss h =
    let r = prepend_some (step_of pattern w) (each_step pattern ws) ss h in
    let one = step_some pattern w r.0 r.2 in
    let rest = each_some pattern ws r.1 r.3 in
    subst (λ l. AllOf (StepFits pattern) l × WritesSteps l (w ∷ ws)) r.4 ((one.0, rest.0), (one.1, rest.1))

each_own : (pattern : MessagingPattern) (ss : List ForeignStep) (ws : List (List ℕ)) → AllOf (StepFits pattern) ss → WritesSteps ss ws
    → each_step pattern ws ≡ Some ss
each_own pattern [] [] f e = refl
each_own pattern [] (w ∷ ws) f e = absurd e
each_own pattern (s ∷ ss) [] f e = absurd e
each_own pattern (s ∷ ss) (w ∷ ws) f e =
    ap (λ o. prepend o (each_step pattern ws)) (step_own pattern s w f.0 e.0) ∙ ap
    (λ o. prepend (Some s) o) (each_own pattern ss ws f.1 e.1)

some_length : (w : List ℕ) (ws : List (List ℕ)) (ss : List ForeignStep) → WritesSteps ss (w ∷ ws) → 0 < length ss
some_length w ws [] e = absurd e
some_length w ws (s ∷ ss) e = omega arith

-- words that are read as steps write them
pub steps_some : (pattern : MessagingPattern) (ws : List (List ℕ)) (ss : List ForeignStep) → steps_of pattern ws ≡ Some ss
    → ((0 < length ss) × AllOf (StepFits pattern) ss) × WritesSteps ss ws
steps_some pattern [] ss h = cc
steps_some pattern (w ∷ ws) ss h = let r = each_some pattern (w ∷ ws) ss h in ((some_length w ws ss r.1, r.0), r.1)

steps_at : (pattern : MessagingPattern) (ws : List (List ℕ)) (w : List ℕ) (vs : List (List ℕ)) → ws ≡ w ∷ vs
    → steps_of pattern ws ≡ each_step pattern ws
steps_at pattern ws w vs e = ap (steps_of pattern) e ∙ sym (ap (each_step pattern) e)

-- steps are read from words that write them
pub steps_own : (pattern : MessagingPattern) (ss : List ForeignStep) (ws : List (List ℕ)) → 0 < length ss → AllOf (StepFits pattern) ss
    → WritesSteps ss ws → steps_of pattern ws ≡ Some ss
steps_own pattern [] ws l f e = absurd (omega (arith, l))
steps_own pattern (s ∷ ss) [] l f e = absurd e
steps_own pattern (s ∷ ss) (w ∷ ws) l f e = steps_at pattern (w ∷ ws) w ws refl ∙ each_own pattern (s ∷ ss) (w ∷ ws) f e
