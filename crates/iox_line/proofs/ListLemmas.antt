-- Words that are read as lists of steps write them, and what writes them is read.
use Rattle.std.proofs.Common.{◌≡◌, ℕ, ◌≤◌, ◌<◌, ◌==◌, Bool, true, false, nat_lt, List, [], ◌∷◌, ◌++◌, Option, None, Some, refl, cond, sym}
use Rattle.std.proofs.Common.{ap, ◌∙◌, subst, decimal, arith, rules, eqb-true}
use Rattle.std.specs.Option.{option_map}
use Rattle.std.proofs.lemmas.Grind.{common_steps}
use Rattle.iox_command.specs.DescribeBase.declared.pattern.MessagingPattern.{MessagingPattern}
use Rattle.iox_command.specs.declared.step.ForeignStep.{ForeignStep}
use Rattle.iox_command.specs.declared.step.ForeignStep.TheVariants as step
use Rattle.iox_command.specs.declared.step.StepBefore.{StepBefore}
use Rattle.iox_line.proofs.Shorthands.{beginning}
use Rattle.iox_line.specs.Numbers.{IsNumber, number_of}
use Rattle.iox_line.specs.Options.{after}
use Rattle.iox_line.specs.Memory.{prepend}
use Rattle.iox_line.proofs.MarkLemmas.{starts}
use Rattle.iox_line.proofs.NumberLemmas.{number_some, number_own}
use Rattle.iox_line.proofs.ChoiceLemmas.{map_some}
use Rattle.iox_line.proofs.AfterLemmas.{after_some}
use Rattle.iox_line.specs.Steps.{WritesStep, StepFits, WritesLists, ListsFit}
use Rattle.iox_line.specs.StepsReading.{step_of, step_before, above, next_access, listed_step, and_then, bar_or_step, lists_from, lists_of}
use Rattle.iox_line.proofs.StepLemmas.{prepend_some, step_some, step_own}

-- the first step is before this storage operation
abbrev Heads : ℕ → List StepBefore → Type 0
Heads now [] = ⊥
Heads now (t ∷ ts) = t.access ≡ now

-- a list that has no step yet gets one
abbrev IfFresh : Bool → ℕ → List StepBefore → Type 0
IfFresh false now ts = Unit {0}
IfFresh true now ts = Heads now ts

-- what lists write
abbrev Listed : MessagingPattern → ℕ → Bool → List StepBefore → List (List ℕ) → Type 0
Listed pattern now fresh ts ws = ListsFit pattern now ts × WritesLists now ts ws × IfFresh fresh now ts

fresh_so : (fresh : Bool) (now : ℕ) (t : StepBefore) (ts : List StepBefore) → t.access ≡ now → IfFresh fresh now (t ∷ ts)
fresh_so false now t ts h = tt
fresh_so true now t ts h = h

above_at : (now j i : ℕ) (t : Bool) → nat_lt now j ≡ t → cond t (Some j) None ≡ Some i → (now < j) × (j ≡ i)
above_at now j i true e h = (search (rules, e), cc)
above_at now j i false e h = cc

above_some : (now i : ℕ) (o : Option ℕ) → above now o ≡ Some i → (now < i) × (o ≡ Some i)
above_some now i None h = cc
above_some now i (Some j) h =
    let r = above_at now j i (nat_lt now j) refl h in
    subst (λ k. (now < k) × (Some j ≡ Some k)) r.1 (r.0, refl)

next_some : (fresh : Bool) (now i : ℕ) (text : List ℕ) → next_access fresh now text ≡ Some i → (fresh ≡ false) × (now < i) × IsNumber i
    × (text ≡ decimal i)
next_some true now i text h = cc
next_some false now i text h =
    let a = above_some now i (number_of text) h in
    let n = number_some text i a.1 in
    (refl, a.0, n.0, n.1)

then_some : {A B : Type 0} (x : Option A) (make : A → Option B) (b : B) → and_then x make ≡ Some b → (a : A) × (x ≡ Some a)
    × (make a ≡ Some b)
then_some None make b h = cc
then_some (Some a) make b h = (a, refl, h)

positive : (n : ℕ) → (n == 0) ≡ false → 1 ≤ n
positive n h = grind (arith, common_steps, h)

listed_at : (pattern : MessagingPattern) (now : ℕ) (w : List ℕ) (s : StepBefore) (t : Bool) → (now == 0) ≡ t
    → cond t None (option_map (λ q. step_before now q) (step_of pattern w)) ≡ Some s
    → (1 ≤ now) × (step_before now s.step ≡ s) × StepFits pattern s.step × WritesStep s.step w
listed_at pattern now w s true e h = cc
listed_at pattern now w s false e h =
    let m = map_some (λ q. step_before now q) (step_of pattern w) s h in
    let r = step_some pattern w m.0 m.1 in
    subst (λ q. (1 ≤ now) × (step_before now q.step ≡ q) × StepFits pattern q.step × WritesStep q.step w) m.2
    (positive now e, refl, r.0, r.1)

same_beginning : (now access : ℕ) → access ≡ now → beginning now access ≡ []
same_beginning now access e = grind (arith, common_steps, e)

other_beginning : (now access : ℕ) → now < access → beginning now access ≡ (124 ∷ decimal access) ∷ []
other_beginning now access l = grind (arith, common_steps, l)

-- a step of the list that has begun
one_more : (pattern : MessagingPattern) (now : ℕ) (fresh : Bool) (w : List ℕ) (ws : List (List ℕ)) (s : StepBefore)
    (rest ts : List StepBefore) → IsNumber now → listed_step pattern now w ≡ Some s
    → Listed pattern now false rest ws → s ∷ rest ≡ ts → Listed pattern now fresh ts (w ∷ ws)
one_more pattern now fresh w ws s rest ts n h l e =
    let r = listed_at pattern now w s (now == 0) refl h in
    let access : s.access ≡ now = ap (λ q. q.access) (sym r.1) in
    let fit = subst (λ k. (1 ≤ k) × (now ≤ k) × IsNumber k × ListsFit pattern k rest × WritesLists k rest ws) (sym access)
    (r.0, omega arith, n, l.0, l.1) in
    subst (λ q. Listed pattern now fresh q (w ∷ ws)) e (
      (fit.0, fit.1, fit.2, r.2, fit.3),
      (w, ws, r.3, fit.4, ap (λ b. b ++ w ∷ ws) (sym (same_beginning now s.access access))),
      fresh_so
          fresh now s rest access,
    )

-- a list begins
begun_at : (pattern : MessagingPattern) (now i : ℕ) (w : List ℕ) (ws : List (List ℕ)) (ts : List StepBefore) → now < i
    → w ≡ 124 ∷ decimal i → Listed pattern i true ts ws → Listed pattern now false ts (w ∷ ws)
begun_at pattern now i w ws [] l e r = absurd (r.2)
begun_at pattern now i w ws (t ∷ ts) l e r =
    let access : t.access ≡ i = r.2 in
    let below : now < t.access = omega (arith, l, access) in
    let there : ws ≡ r.1.0 ∷ r.1.1 = r.1.4 ∙ ap (λ b. b ++ r.1.0 ∷ r.1.1) (same_beginning i t.access access) in
    let first : w ∷ ws ≡ beginning now t.access ++ r.1.0 ∷ r.1.1 =
    ap (λ x. x ∷ ws) e ∙ ap (λ k. (124 ∷ decimal k) ∷ ws) (sym access) ∙ ap (λ l. (124 ∷ decimal t.access) ∷ l) there ∙ ap
    (λ b. b ++ r.1.0 ∷ r.1.1) (sym (other_beginning now t.access below)) in
    ((r.0.0, omega (arith, below), r.0.2, r.0.3, r.0.4), (r.1.0, r.1.1, r.1.2, r.1.3, first), tt)

begun : (pattern : MessagingPattern) (now i : ℕ) (fresh : Bool) (w : List ℕ) (ws : List (List ℕ)) (ts : List StepBefore) → fresh ≡ false
    → now < i → w ≡ 124 ∷ decimal i → Listed pattern i true ts ws
    → Listed pattern now fresh ts (w ∷ ws)
begun pattern now i true w ws ts f l e r = cc
begun pattern now i false w ws ts f l e r = begun_at pattern now i w ws ts l e r

-- what words are read as after a list has begun, they write
abbrev AreListed : MessagingPattern → List (List ℕ) → Type 0
AreListed pattern ws = (now : ℕ) (fresh : Bool) (ts : List StepBefore) → IsNumber now → lists_from pattern now fresh ws ≡ Some ts
    → Listed pattern now fresh ts ws

word_at : (pattern : MessagingPattern) (now : ℕ) (fresh : Bool) (w : List ℕ) (ws : List (List ℕ)) (ts : List StepBefore)
    (o : Option (List ℕ)) → IsNumber now → after (124 ∷ []) w ≡ o → AreListed pattern ws
    → bar_or_step o (λ text. and_then (next_access fresh now text) (λ i. lists_from pattern i true ws))
    (prepend (listed_step pattern now w) (lists_from pattern now false ws)) ≡ Some ts
    → Listed pattern now fresh ts (w ∷ ws)
word_at pattern now fresh w ws ts None n e more h =
    let r = prepend_some (listed_step pattern now w) (lists_from pattern now false ws) ts h in
    one_more pattern now fresh w ws r.0 r.1 ts n r.2 (more now false r.1 n r.3) r.4
word_at pattern now fresh w ws ts (Some text) n e more h =
    let r = then_some (next_access fresh now text) (λ i. lists_from pattern i true ws) ts h in
    let i = next_some fresh now r.0 text r.1 in
    begun pattern now r.0 fresh w ws ts i.0 i.1 (after_some (124 ∷ []) w text e ∙ ap (λ l. 124 ∷ l) i.3) (more r.0 true ts i.2 r.2)

end_at : (pattern : MessagingPattern) (now : ℕ) (fresh : Bool) (ts : List StepBefore) → cond fresh None (Some []) ≡ Some ts
    → Listed pattern now fresh ts []
end_at pattern now true ts h = cc
end_at pattern now false ts h = let same : [] ≡ ts = cc in subst (λ q. Listed pattern now false q []) same (tt, refl, tt)

are_listed : (pattern : MessagingPattern) (ws : List (List ℕ)) → AreListed pattern ws
are_listed pattern [] now fresh ts n h = end_at pattern now fresh ts h
are_listed pattern (w ∷ ws) now fresh ts n h = word_at pattern now fresh w ws ts (after (124 ∷ []) w) n refl (are_listed pattern ws) h

zero_number : IsNumber 0
zero_number = omega arith

-- words that are read as lists write them
pub lists_some : (pattern : MessagingPattern) (ws : List (List ℕ)) (ts : List StepBefore) → lists_of pattern ws ≡ Some ts
    → ListsFit pattern 0 ts × WritesLists 0 ts ws
lists_some pattern ws ts h = let r = are_listed pattern ws 0 false ts zero_number h in (r.0, r.1)

-- a step begins with no bar
step_unbarred : (s : ForeignStep) (w : List ℕ) → WritesStep s w → after (124 ∷ []) w ≡ None
step_unbarred (step.Lock n) w e = ap (after (124 ∷ [])) e
step_unbarred (step.GiveUp n) w e = ap (after (124 ∷ [])) e
step_unbarred (step.Publish n o) w e = ap (after (124 ∷ [])) e.2
step_unbarred (step.PublishV1 n o) w e = ap (after (124 ∷ [])) e.2
step_unbarred (step.Register n) w e = ap (after (124 ∷ [])) e
step_unbarred (step.Leave n) w e = ap (after (124 ∷ [])) e
step_unbarred (step.Remove n) w e = ap (after (124 ∷ [])) e

not_zero : (n : ℕ) → 1 ≤ n → (n == 0) ≡ false
not_zero n h = grind (arith, common_steps, h)

-- a step after its list has begun
step_read : (pattern : MessagingPattern) (fresh : Bool) (t : StepBefore) (ts : List StepBefore) (w : List ℕ) (ws : List (List ℕ))
    → 1 ≤ t.access → StepFits pattern t.step → WritesStep t.step w
    → lists_from pattern t.access false ws ≡ Some ts → lists_from pattern t.access fresh (w ∷ ws) ≡ Some (t ∷ ts)
step_read pattern fresh t ts w ws p f e h =
    ap (λ o. bar_or_step o (λ text. and_then (next_access fresh t.access text) (λ i. lists_from pattern i true ws))
    (prepend (listed_step pattern t.access w) (lists_from pattern t.access false ws))) (step_unbarred t.step w e)
    ∙ ap (λ b. prepend (cond b None (option_map (λ q. step_before t.access q) (step_of pattern w)))
    (lists_from pattern t.access false ws)) (not_zero t.access p)
    ∙ ap (λ o. prepend (option_map (λ q. step_before t.access q) o) (lists_from pattern t.access false ws)) (step_own pattern t.step w f e)
    ∙ ap (λ o. prepend (Some t) o) h

is_above : (now i : ℕ) → now < i → nat_lt now i ≡ true
is_above now i h = grind (arith, common_steps, h)

bar_read : (pattern : MessagingPattern) (now i : ℕ) (ws : List (List ℕ)) → now < i → IsNumber i
    → lists_from pattern now false ((124 ∷ decimal i) ∷ ws) ≡ lists_from pattern i true ws
bar_read pattern now i ws l n =
    ap (λ o. and_then (above now o) (λ j. lists_from pattern j true ws)) (number_own i n) ∙ ap
    (λ b. and_then (cond b (Some i) None) (λ j. lists_from pattern j true ws)) (is_above now i l)

above_other : (now access : ℕ) → now ≤ access → (access == now) ≡ false → now < access
above_other now access l e = grind (arith, common_steps, l, e)

own_at : (pattern : MessagingPattern) (now : ℕ) (t : StepBefore) (ts : List StepBefore) (w : List ℕ) (ws rest : List (List ℕ))
    (b : Bool) → (t.access == now) ≡ b → 1 ≤ t.access → now ≤ t.access → IsNumber t.access
    → ((fresh : Bool) → lists_from pattern t.access fresh (w ∷ rest) ≡ Some (t ∷ ts))
    → ws ≡ cond b [] ((124 ∷ decimal t.access) ∷ []) ++ w ∷ rest → lists_from pattern now false ws ≡ Some (t ∷ ts)
own_at pattern now t ts w ws rest true e p l n read h =
    ap (λ x. lists_from pattern now false x) h ∙ ap (λ k. lists_from pattern k false (w ∷ rest)) (sym (eqb-true t.access now e)) ∙ read
    false
own_at pattern now t ts w ws rest false e p l n read h =
    ap (λ x. lists_from pattern now false x) h ∙ bar_read pattern now t.access (w ∷ rest) (above_other now t.access l e) n ∙ read true

lists_read : (pattern : MessagingPattern) (now : ℕ) (ts : List StepBefore) (ws : List (List ℕ)) → ListsFit pattern now ts
    → WritesLists now ts ws → lists_from pattern now false ws ≡ Some ts
lists_read pattern now [] ws f e = ap (λ x. lists_from pattern now false x) e
lists_read pattern now (t ∷ ts) ws f e =
    own_at pattern now t ts e.0 ws e.1 (t.access == now) refl f.0 f.1 f.2
    (λ fresh. step_read pattern fresh t ts e.0 e.1 f.0 f.3 e.2 (lists_read pattern t.access ts e.1 f.4 e.3)) e.4

-- lists are read from words that write them
pub lists_own : (pattern : MessagingPattern) (ts : List StepBefore) (ws : List (List ℕ)) → ListsFit pattern 0 ts → WritesLists 0 ts ws
    → lists_of pattern ws ≡ Some ts
lists_own pattern ts ws f e = lists_read pattern 0 ts ws f e

-- lists start with a bar
pub lists_start : (pattern : MessagingPattern) (ts : List StepBefore) (ws : List (List ℕ)) → ListsFit pattern 0 ts → WritesLists 0 ts ws
    → starts 124 ws ≡ true
lists_start pattern [] ws f e = ap (λ x. starts 124 x) e
lists_start pattern (t ∷ ts) ws f e
    = ap (λ x. starts 124 x) e.4 ∙ ap (λ b. starts 124 (b ++ e.0 ∷ e.1)) (other_beginning 0 t.access (omega (arith, f.0)))
