-- A party makes one more step, whatever the stage of its call.
use Rattle.std.proofs.Common.{◌≡◌, ℕ, ◌-◌, ◌%◌, ◌^◌, ◌<◌, ◌≤◌, Bool, true, false, if◌then◌else◌, ◌==◌, ◌&&◌, not, Some, None, Ok, List}
use Rattle.std.proofs.Common.{[], ◌∷◌, ◌++◌, length, set, slice_index, drop, refl, sym, ◌∙◌, ap, subst, arith, mod-eq_of_lt}
use Rattle.std.proofs.lemmas.Bool.{eqb-true}
use Rattle.iox_queues_steps.specs.Access.{RingWords, after_access, answer_of}
use Rattle.iox_queues_steps.specs.declared.access.Access.TheVariants.{Exchange}
use Rattle.iox_queues_steps.specs.declared.access.Word.TheVariants.{Read}
use Rattle.iox_container.specs.Head.{head_of_word}
use Rattle.iox_container.specs.Release.{state_of}
use Rattle.iox_container.specs.declared.release.ReleaseMode.{ReleaseMode}
use Rattle.iox_queues.specs.Told.{own}
use Rattle.iox_queues.specs.declared.bits.machine.Event.{Event}
use Rattle.iox_index_steps.specs.Steps.{call_next, call_take, next_free, borrowed_count, head_taken, head_given, locks_last}
use Rattle.iox_index_steps.specs.Steps.{seen_by_acquire}
use Rattle.iox_index_steps.specs.Changes.{changed_by, took_by, gave_by, head_changes, holds_more}
use Rattle.iox_index_steps.specs.Told.{MoveNone}
use Rattle.iox_index_steps.specs.Machine.{IsBriefSoFar, holders_after}
use Rattle.iox_index_steps.specs.Kept.{HasCells, HoldsIndex, WordsFit, Knows, Looked}
use Rattle.iox_index_steps.specs.declared.call.Answer.TheVariants.{Acquired, Released}
use Rattle.iox_index_steps.specs.declared.call.Call.TheVariants as call
use Rattle.iox_index_steps.specs.declared.call.IndexCall.{IndexCall}
use Rattle.iox_index_steps.specs.declared.call.IndexCall.TheVariants.{Idle, Acquire, Follow, Take, Release, Link, Give, Done}
use Rattle.iox_index_steps.proofs.Counts.{more_changes, changes_since}
use Rattle.iox_index_steps.proofs.Places.{held_within}
use Rattle.iox_index_steps.proofs.Whole.{whole_kept}
use Rattle.iox_index_steps.proofs.Own.{MadeStep, given_made, leaves_all, linked_made, none_more, seen_made, taken_made}
use Rattle.std.proofs.Common.{inl}

-- an exchange that was lost does nothing
lost : (answer old new : ℕ) → (answer == old) ≡ false → changed_by (Exchange Read old new) answer ≡ 0
lost answer old new e = ap (λ (b : Bool). if b then 1 else 0) e

lost_none : (answer old new j : ℕ) → (answer == old) ≡ false → took_by j (Exchange Read old new) answer ≡ 0
lost_none answer old new j e = ap (λ (b : Bool). if b && (holds_more old new && (next_free old == j)) then 1 else 0) e

lost_kept : (answer old new j : ℕ) → (answer == old) ≡ false → gave_by j (Exchange Read old new) answer ≡ 0
lost_kept answer old new j e = ap (λ (b : Bool). if b && (not (holds_more old new) && (next_free new == j)) then 1 else 0) e

-- a look is still the last one after a step that does nothing to the head
abbrev looked_still : (words : RingWords) (events : List Event) (first word : ℕ) (e : Event) → changed_by e.access e.answer ≡ 0
    → first ≤ length events
    → Looked words events first word → Looked words (events ++ e ∷ []) first word
looked_still words events first word e unchanged began k = record {
  before = k.before;
  since = k.since;
  whole = omega (arith, k.whole, more_changes events (e ∷ []), unchanged);
  few = omega (arith, k.few, changes_since first events e began);
  seen = k.seen;
  there = k.there;
  unmarked = k.unmarked;
  still = k.still;
}

-- the head that an acquire saw is there: so few changes lie after the look that none does
nothing_since : (words : RingWords) (holders : List _) (events : List Event) (first word : ℕ) → WordsFit words holders events
    → (k : Looked words events first word)
    → head_changes (drop first events) < 2 ^ 16 → words.read ≡ word → k.since ≡ 0
nothing_since words holders events first word w k brief same =
    let aba : (head_of_word words.read).aba ≡ (head_of_word word).aba = ap (λ (x : ℕ). (head_of_word x).aba) same in
    omega (arith, aba, w.changes, k.seen, k.whole, k.few, brief)

module _ (p first : ℕ) (words : RingWords) (holders : List _) (events : List Event) (w : WordsFit words holders events)
    (small : length words.cells < 2 ^ 24) (size : length holders ≡ length words.cells) (began : first ≤ length events) where
  -- a step that changes no word
  quiet_made : (e : Event) → changed_by e.access e.answer ≡ 0 → ((j : ℕ) → took_by j e.access e.answer ≡ 0)
      → ((j : ℕ) → gave_by j e.access e.answer ≡ 0)
      → (stage : IndexCall) → Knows words holders (events ++ e ∷ []) p first stage
      → MadeStep p first words words holders holders events e stage
  quiet_made e unchanged took gave stage k = record {
    whole = whole_kept holders events e unchanged took gave words w;
    leaves = λ q differs. leaves_all q words holders e;
    knows = k;
    locks = λ h. inl h;
  }

  take_made : (capacity word next : ℕ) → capacity ≡ length words.cells → MoveNone (own p (drop first events))
      → (k : Looked words events first word)
      → (k.since ≡ 0 → slice_index words.cells (next_free word) ≡ next) → head_changes (drop first events) < 2 ^ 16 → (b : Bool)
      → (words.read == word) ≡ b
      → MadeStep p first words (if b then record words { read = head_taken word next } else words) holders
      (if b then set holders (next_free word) (Some p) else holders) events
      (record { party = p; access = Exchange Read word (head_taken word next); answer = words.read })
      (if b then Done call.Acquire (Acquired (Ok (next_free word))) else seen_by_acquire capacity words.read)
  take_made capacity word next full none k linked brief true e =
      let same : words.read ≡ word = eqb-true words.read word e in
      let nothing : k.since ≡ 0 = nothing_since words holders events first word w k brief same in
      let there : next_free words.read < length words.cells = subst (λ (x : ℕ). next_free x < length words.cells) (sym same) k.there in
      let unmarked : borrowed_count words.read ≡ 2 ^ 24 - 1 → ⊥ = λ mark. k.unmarked (ap borrowed_count (sym same) ∙ mark) in
      let behind : slice_index words.cells (next_free words.read) ≡ next
      = ap (λ (x : ℕ). slice_index words.cells (next_free x)) same ∙ linked nothing in
      subst (λ (x : ℕ). MadeStep p first words (record words { read = head_taken x next }) holders (set holders (next_free x) (Some p))
      events (record { party = p; access = Exchange Read x (head_taken x next); answer = words.read })
      (Done call.Acquire (Acquired (Ok (next_free x))))) same
      (subst (λ (x : ℕ). MadeStep p first words (record words { read = head_taken words.read x }) holders
      (set holders (next_free words.read) (Some p)) events
      (record { party = p; access = Exchange Read words.read (head_taken words.read x); answer = words.read })
      (Done call.Acquire (Acquired (Ok (next_free words.read))))) behind
      (taken_made p first words holders events w small size began none there unmarked))
  take_made capacity word next full none k linked brief false e =
      subst (λ (c : ℕ). MadeStep p first words words holders holders events
      (record { party = p; access = Exchange Read word (head_taken word next); answer = words.read })
      (seen_by_acquire c words.read)) (sym full)
      (seen_made p first words holders events w small size began none
      (record { party = p; access = Exchange Read word (head_taken word next); answer = words.read }) refl refl
      (lost words.read word (head_taken word next) e) (λ j. lost_none words.read word (head_taken word next) j e)
      (λ j. lost_kept words.read word (head_taken word next) j e))

  give_made : (index : ℕ) (mode : ReleaseMode) (word : ℕ) → MoveNone (own p (drop first events)) → HoldsIndex holders p index
      → slice_index words.cells index ≡ next_free word → (b : Bool) → (words.read == word) ≡ b
      → MadeStep p first words (if b then record words { read = head_given index mode word } else words) holders
      (if b then set holders index None else holders) events
      (record { party = p; access = Exchange Read word (head_given index mode word); answer = words.read })
      (if b then Done (call.Release index mode) (Released (state_of (locks_last mode (borrowed_count word)))) else Link index mode
      words.read)
  give_made index mode word none holds linked true e =
      let same : words.read ≡ word = eqb-true words.read word e in
      subst (λ (x : ℕ). MadeStep p first words (record words { read = head_given index mode x }) holders (set holders index None) events
      (record { party = p; access = Exchange Read x (head_given index mode x); answer = words.read })
      (Done (call.Release index mode) (Released (state_of (locks_last mode (borrowed_count x)))))) same
      (given_made p first words holders events w small size began none index mode holds (linked ∙ ap next_free (sym same)))
  give_made index mode word none holds linked false e =
      let event : Event = record { party = p; access = Exchange Read word (head_given index mode word); answer = words.read } in
      let unchanged : changed_by event.access event.answer ≡ 0 = lost words.read word (head_given index mode word) e in
      quiet_made event unchanged (λ j. lost_none words.read word (head_given index mode word) j e)
      (λ j. lost_kept words.read word (head_given index mode word) j e) (Link index mode words.read) (
        none_more p first words holders events w small size began none event refl
            (λ j. lost_none words.read word (head_given index mode word) j e)
            (λ j. lost_kept words.read word (head_given index mode word) j e),
        holds,
      )

  -- the event of this step
  abbrev stepped : IndexCall → Event
  stepped stage = record { party = p; access = call_next stage; answer = answer_of words (call_next stage) }

  pub made : (stage : IndexCall) → HasCells (length words.cells) stage → IsBriefSoFar stage (drop first events)
      → Knows words holders events p first stage
      → MadeStep p first words (after_access words (call_next stage)) holders
      (holders_after holders p stage (answer_of words (call_next stage))) events (stepped stage)
      (call_take stage (answer_of words (call_next stage)))
  made Idle cells brief k = quiet_made (stepped Idle) refl (λ j. refl) (λ j. refl) Idle tt
  made (Acquire capacity) cells brief k =
      subst (λ (c : ℕ). MadeStep p first words words holders holders events (stepped (Acquire capacity)) (seen_by_acquire c words.read))
      (sym cells)
      (seen_made p first words holders events w small size began k (stepped (Acquire capacity)) refl refl refl (λ j. refl) (λ j. refl))
  made (Follow capacity word) cells brief k =
      quiet_made (stepped (Follow capacity word)) refl (λ j. refl) (λ j. refl)
      (Take capacity word (answer_of words (call_next (Follow capacity word)))) (
        none_more p first words holders events w small size began k.0 (stepped (Follow capacity word)) refl (λ j. refl) (λ j. refl),
        (
          looked_still words events first word (stepped (Follow capacity word)) refl began k.1,
          λ none. ap
              (λ (i : ℕ). slice_index words.cells i) (sym (mod-eq_of_lt k.1.there)),
        ),
      )
  made (Take capacity word next) cells brief k = take_made capacity word next cells.0 k.0 k.1.0 k.1.1 brief (words.read == word) refl
  made (Release index mode) cells brief k =
      quiet_made (stepped (Release index mode)) refl (λ j. refl) (λ j. refl) (Link index mode words.read)
      (none_more p first words holders events w small size began k.0 (stepped (Release index mode)) refl (λ j. refl) (λ j. refl), k.1)
  made (Link index mode word) cells brief k =
      linked_made p first words holders events w small size began k.0 index k.1 (stepped (Link index mode word)) refl refl (λ j. refl)
      (λ j. refl) mode word (index % length words.cells)
      (mod-eq_of_lt (within (held_within holders index p k.1)))
    where
      within : index < length holders → index < length words.cells
      within h = omega (arith, h, size)
  made (Give index mode word) cells brief k = give_made index mode word k.0 k.1 k.2 (words.read == word) refl
  made (Done c answer) cells brief k = quiet_made (stepped (Done c answer)) refl (λ j. refl) (λ j. refl) Idle tt
