-- What is answered of parts that may lack memory is answered of what is made of them.
use Rattle.std.proofs.Common.{◌≡◌, ℕ, Bool, true, false, ◌||◌, List, ◌∷◌, Option, None, Some, Result, Ok, Err, refl, sym, ap, ◌∙◌, subst}
use Rattle.std.specs.Option.{option_map}
use Rattle.std.specs.declared.alloc.AllocError.{AllocError}
use Rattle.iox_command.specs.DescribeBase.declared.pattern.MessagingPattern.{MessagingPattern}
use Rattle.iox_command.specs.declared.command.Command.{Command}
use Rattle.iox_command.specs.declared.command.Command.TheVariants as command
use Rattle.iox_command.specs.declared.step.ForeignStep.{ForeignStep}
use Rattle.iox_command.specs.declared.step.StepBefore.{StepBefore}
use Rattle.iox_command.specs.Patterns.{pattern_of}
use Rattle.iox_line.specs.Memory.{MayLack, some}
use Rattle.iox_line.specs.declared.services.service.NamedService.{NamedService}
use Rattle.iox_line.specs.ServicesReading.{pattern_named, name_of, service_of}
use Rattle.iox_line.specs.StepsReading.{steps_of, lists_of}
use Rattle.iox_line.specs.Reading.{bind, both, service_command, foreign_parts, foreign_command, together}
use Rattle.iox_line.specs.Outcome.{takes_memory}

or_second : (a b : Bool) → b ≡ true → (a || b) ≡ true
or_second true b h = refl
or_second false b h = h

or_first : (a b : Bool) → a ≡ true → (a || b) ≡ true
or_first a b h = ap (λ t. t || b) h

both_own : {A B : Type 0} (x : Option A) (y : Option B) (a : A) (b : B) → x ≡ Some a → y ≡ Some b → both x y ≡ Some (a, b)
both_own x y a b p q = ap (λ o. both o y) p ∙ ap (λ o. both (Some a) o) q

both_none : {A B : Type 0} (x : Option A) (y : Option B) (a : A) → x ≡ Some a → None ≡ y → None ≡ both x y
both_none x y a p q = sym (ap (λ o. both o y) p ∙ ap (λ o. both (Some a) o) (sym q))

-- two parts
pub together_may : {A B : Type 0} (ta : A → Bool) (tb : B → Bool) (x : Option A) (y : Option B) (first : Result (Option A) AllocError)
    (second : Result (Option B) AllocError)
    → MayLack ta x first → MayLack tb y second → MayLack (λ p. ta p.0 || tb p.1) (both x y) (together first second)
together_may ta tb x y (Ok None) second e f = ap (λ o. both o y) e
together_may ta tb x y (Ok (Some a)) (Ok None) e f = both_none x y a (sym e) f
together_may ta tb x y (Ok (Some a)) (Ok (Some b)) e f = sym (both_own x y a b (sym e) (sym f))
together_may ta tb x y (Ok (Some a)) (Err lacking) e f = ((a, f.0), both_own x y a f.0 (sym e) f.1, or_second (ta a) (tb f.0) f.2)
together_may ta tb x y (Err lacking) (Ok None) e f = both_none x y e.0 e.1 f
together_may ta tb x y (Err lacking) (Ok (Some b)) e f = ((e.0, b), both_own x y e.0 b e.1 (sym f), or_first (ta e.0) (tb b) e.2)
together_may ta tb x y (Err lacking) (Err other) e f = ((e.0, f.0), both_own x y e.0 f.0 e.1 f.1, or_first (ta e.0) (tb f.0) e.2)

-- where memory is wanting for a service, a line with attributes or lists is spelled
pub service_lacks : {A : Type 0} (takes : A → Bool) (make : NamedService → A → List StepBefore → Command ℕ)
    (read : List (List ℕ) → Option A) (ws : List (List ℕ)) (s : NamedService) (kind : MessagingPattern)
    (first : Result (Option A) AllocError) (second : Result (Option (List StepBefore)) AllocError) (lacking : AllocError)
    → ((a : A) (t : List StepBefore) → takes_memory (make s a t) ≡ (takes a || some t)) → service_of ws ≡ Some s
    → kind ≡ pattern_of s.options
    → MayLack takes (read s.attributes) first → MayLack some (lists_of kind s.lists) second → together first second ≡ Err lacking
    → (c : Command ℕ) × (service_command make read ws ≡ Some c) × (takes_memory c ≡ true)
service_lacks takes make read ws s kind first second lacking t h k e f g =
    let both_may = together_may takes some (read s.attributes) (lists_of kind s.lists) first second e f in
    let m = subst (λ r. MayLack (λ p. takes p.0 || some p.1) (both (read s.attributes) (lists_of kind s.lists)) r) g both_may in (
      make s m.0.0 m.0.1,
      ap (λ x. bind x (λ q. option_map (λ p. make q p.0 p.1) (both (read q.attributes) (lists_of (pattern_of q.options) q.lists)))) h
          ∙ ap (λ o. option_map (λ p. make s p.0 p.1) (both (read s.attributes) (lists_of o s.lists))) (sym k) ∙ ap
          (option_map (λ p. make s p.0 p.1)) m.1,
      t m.0.0 m.0.1 ∙ m.2,
    )

-- if memory runs out for the actions of other nodes, a line of these actions is still spelled
pub foreign_lacks : (words rest ws : List (List ℕ)) (w v : List ℕ) (kind : MessagingPattern) (name : List ℕ)
    (r : Result (Option (List ForeignStep)) AllocError) (lacking : AllocError)
    → words ≡ w ∷ rest → rest ≡ v ∷ ws → pattern_named w ≡ Some kind → name_of v ≡ Some name → MayLack some (steps_of kind ws) r
    → r ≡ Err lacking
    → (c : Command ℕ) × (foreign_command words ≡ Some c) × (takes_memory c ≡ true)
foreign_lacks words rest ws w v kind name r lacking e f p n may g =
    let m = subst (λ q. MayLack some (steps_of kind ws) q) g may in (
      command.Foreign kind name m.0,
      ap foreign_command e ∙ ap (λ l. foreign_command (w ∷ l)) f ∙ ap (λ x. foreign_parts x (name_of v) ws) p ∙ ap
          (λ x. foreign_parts (Some kind) x ws) n ∙ ap (option_map (λ s. command.Foreign kind name s)) m.1,
      m.2,
    )

-- what an answer without want of memory says
pub answered : {A : Type 0} (takes : A → Bool) (x o : Option A) (r : Result (Option A) AllocError) → MayLack takes x r → r ≡ Ok o → x ≡ o
answered takes x o r m e = sym (subst (λ q. MayLack takes x q) e m)

-- and what want of memory says
pub lacked : {A : Type 0} (takes : A → Bool) (x : Option A) (r : Result (Option A) AllocError) (lacking : AllocError)
    → MayLack takes x r → r ≡ Err lacking → (a : A) × (x ≡ Some a) × (takes a ≡ true)
lacked takes x r lacking m e = subst (λ q. MayLack takes x q) e m
