-- What a slot of lanes holds after what they find, where each thing that is found of it agrees.
use Rattle.std.proofs.Common.{ℕ, ◌≡◌, ◌⊎◌, Bool, true, false, List, [], ◌∷◌, refl, sym, ◌∙◌, ap, subst, inl, inr}
use Rattle.std.proofs.lemmas.Bool.Decides.{eqb_tells}
use Rattle.iox_lanes_machine.specs.LanesBase.Numbers.{IsWord}
use Rattle.iox_lanes_machine.specs.LanesBase.Table.{held_by}
use Rattle.iox_lanes_machine.specs.LanesBase.declared.words.sizes.TableSizes.{TableSizes}
use Rattle.iox_lanes_machine.specs.LanesBase.declared.words.word.SharedWord.TheVariants.{Slot}
use Rattle.iox_lanes_machine.specs.LanesBase.declared.words.word.SlotWord.{SlotWord}
use Rattle.iox_lanes_machine.specs.LanesBase.declared.words.word.SlotWord.TheVariants.{Header, UserHeader, Payload}
use Rattle.iox_lanes_machine.specs.Findings.{finds, with_found}
use Rattle.iox_lanes_machine.specs.Kept.{IsKept}
use Rattle.iox_lanes_machine.specs.TakenIn.{IsFirst, IsTakenIn}
use Rattle.iox_lanes_machine.specs.World.{World}
use Rattle.iox_lanes_machine.specs.declared.found.Found.{Found}
use Rattle.iox_lanes_machine.specs.declared.found.Found.TheVariants as found
use Rattle.iox_lanes_machine.proofs.FoundKeptWhole.{found_moments, found_keeps}
use Rattle.iox_lanes_machine.proofs.TakenInPlaces.{takes_in}
use Rattle.iox_lanes.specs.Behind.{behind_findings, behind_finding}
use Rattle.iox_lanes.proofs.Each.{each_leaves, Each, IsIn}
use Rattle.iox_lanes.proofs.Moving.{behind_by, behind_fits}

-- lanes before their first step, with a table of these sizes
pub record AreSteady (sizes : TableSizes) (m : World) : Type 0 where
  pub moments : m.moments ≡ 0
  pub table : m.table.sizes ≡ sizes
  pub kept : IsKept m

pub taken_in : (m : World) (f : Found) → finds m f ≡ true → IsKept m → IsTakenIn m f (with_found m f)
taken_in m f fits kept = (takes_in m f true (with_found m f) (fits, refl) kept).1

pub steady_on : (sizes : TableSizes) (m : World) (f : Found) → AreSteady sizes m → AreSteady sizes (behind_finding m f)
steady_on sizes m f steady = behind_by (AreSteady sizes) m f steady (λ fits. record {
  moments = found_moments m f ∙ steady.moments;
  table = ap (λ (w : World). w.table.sizes) (taken_in m f fits steady.kept).same ∙ steady.table;
  kept = found_keeps m f fits steady.kept;
})

-- what may be found is found
pub accepted : (m : World) (f : Found) → IsKept m → IsFirst m f → finds m f ≡ true
accepted m f kept first = by (finds m f) refl
  where
    by : (fits : Bool) → finds m f ≡ fits → fits ≡ true
    by true is = refl
    by false is = absurd ((takes_in m f false m (is, refl) kept).0 first)

tells_number : (make : ℕ → SlotWord) (number_of : SlotWord → ℕ) → ((n : ℕ) → number_of (make n) ≡ n) → (one other : ℕ)
    → (make one ≡ make other) ⊎ (make one ≡ make other → ⊥)
tells_number make number_of back one other = elim (eqb_tells one other) [
  | inl same ↦ inl (ap make same.1)
  | inr apart ↦ inr (λ same. apart.1 (sym (back one) ∙ ap number_of same ∙ back other))
]

abbrev number_in : SlotWord → ℕ
number_in (Header word) = word
number_in (UserHeader word) = word
number_in (Payload word) = word

-- words of a slot are one or not
tells_word : (one other : SlotWord) → (one ≡ other) ⊎ (one ≡ other → ⊥)
tells_word (Header one) (Header other) = tells_number Header number_in (λ n. refl) one other
tells_word (Header one) (UserHeader other) = inr (λ same. absurd (cc same))
tells_word (Header one) (Payload other) = inr (λ same. absurd (cc same))
tells_word (UserHeader one) (Header other) = inr (λ same. absurd (cc same))
tells_word (UserHeader one) (UserHeader other) = tells_number UserHeader number_in (λ n. refl) one other
tells_word (UserHeader one) (Payload other) = inr (λ same. absurd (cc same))
tells_word (Payload one) (Header other) = inr (λ same. absurd (cc same))
tells_word (Payload one) (UserHeader other) = inr (λ same. absurd (cc same))
tells_word (Payload one) (Payload other) = tells_number Payload number_in (λ n. refl) one other

-- what is found of this slot is what it is to hold
abbrev pub Agrees : ℕ → (SlotWord → ℕ) → Found → Type 0
Agrees slot content (found.Waiting publisher place waits) = Unit {0}
Agrees slot content (found.GivenBack publisher place back) = Unit {0}
Agrees slot content (found.Newest publisher newest) = Unit {0}
Agrees slot content (found.Held other word value) = other ≡ slot → value ≡ content word
Agrees slot content (found.Buffer publisher place messages) = Unit {0}
Agrees slot content (found.Slots publisher slots most_loans) = Unit {0}
Agrees slot content (found.Sender publisher node_id publisher_id fails last) = Unit {0}
Agrees slot content (found.Swapped subscriber one other) = Unit {0}

module _ (sizes : TableSizes) (slot : ℕ) (content : SlotWord → ℕ) (word : SlotWord) (is_word : IsWord sizes (Slot slot word)) where
  -- lanes whose slot holds the word that it is to hold
  pub record Hold (m : World) : Type 0 where
    pub steady : AreSteady sizes m
    pub holds : held_by m.table (Slot slot word) ≡ content word

  of_lanes : (m : World) → AreSteady sizes m → IsWord m.table.sizes (Slot slot word)
  of_lanes m steady = subst (λ s. IsWord s (Slot slot word)) (sym steady.table) is_word

  untouched : (m n : World) (f : Found) → AreSteady sizes m → IsTakenIn m f n → ((value : ℕ) → f ≡ found.Held slot word value → ⊥)
      → held_by m.table (Slot slot word) ≡ content word
      → held_by n.table (Slot slot word) ≡ content word
  untouched m n f steady taken other holds = taken.words slot word (of_lanes m steady) other ∙ holds

  held_on : (m n : World) (f : Found) → Agrees slot content f → AreSteady sizes m → IsTakenIn m f n
      → held_by m.table (Slot slot word) ≡ content word → held_by n.table (Slot slot word) ≡ content word
  held_on m n (found.Held other others value) agrees steady taken holds = elim (eqb_tells other slot) [
    | inl same ↦ elim (tells_word others word) [
      | inl equal ↦ taken.word slot word value (ap (λ s. found.Held s others value) same.1 ∙ ap (λ w. found.Held slot w value) equal) ∙
          agrees same.1 ∙ ap content equal
      | inr apart ↦ untouched m n (found.Held other others value) steady taken (λ given is. apart (word_of is)) holds
    ]
    | inr apart ↦ untouched m n (found.Held other others value) steady taken (λ given is. apart.1 (slot_of is)) holds
  ]
    where
      word_of : {given : ℕ} → found.Held other others value ≡ found.Held slot word given → others ≡ word
      word_of is = cc is

      slot_of : {given : ℕ} → found.Held other others value ≡ found.Held slot word given → other ≡ slot
      slot_of is = cc is
  held_on m n (found.Waiting publisher place waits) agrees steady taken holds
      = untouched m n (found.Waiting publisher place waits) steady taken (λ given is. absurd (cc is)) holds
  held_on m n (found.GivenBack publisher place back) agrees steady taken holds
      = untouched m n (found.GivenBack publisher place back) steady taken (λ given is. absurd (cc is)) holds
  held_on m n (found.Newest publisher newest) agrees steady taken holds
      = untouched m n (found.Newest publisher newest) steady taken (λ given is. absurd (cc is)) holds
  held_on m n (found.Buffer publisher place messages) agrees steady taken holds
      = untouched m n (found.Buffer publisher place messages) steady taken (λ given is. absurd (cc is)) holds
  held_on m n (found.Slots publisher slots most_loans) agrees steady taken holds
      = untouched m n (found.Slots publisher slots most_loans) steady taken (λ given is. absurd (cc is)) holds
  held_on m n (found.Sender publisher node_id publisher_id fails last) agrees steady taken holds =
      untouched m n (found.Sender publisher node_id publisher_id fails last) steady taken (λ given is. absurd (cc is)) holds
  held_on m n (found.Swapped subscriber one other) agrees steady taken holds
      = untouched m n (found.Swapped subscriber one other) steady taken (λ given is. absurd (cc is)) holds

  -- it holds it after a finding that agrees
  pub hold_on : (m : World) (f : Found) → Agrees slot content f → Hold m → Hold (behind_finding m f)
  hold_on m f agrees hold = record {
    steady = steady_on sizes m f hold.steady;
    holds = behind_by (λ n. held_by n.table (Slot slot word) ≡ content word) m f hold.holds
        (λ fits. held_on m (with_found m f) f agrees hold.steady (taken_in m f fits (hold.steady).kept) hold.holds);
  }

  -- and after those of a list
  pub hold_behind : (m : World) (fs : List Found) → Each (Agrees slot content) fs → Hold m → Hold (behind_findings m fs)
  hold_behind m fs agree hold = each_leaves (Agrees slot content) Hold hold_on fs m agree hold

  comes_to_hold : (m : World) → AreSteady sizes m → Hold (behind_finding m (found.Held slot word (content word)))
  comes_to_hold m steady =
      let fits = accepted m (found.Held slot word (content word)) steady.kept
      (record { first = steady.moments; may = of_lanes m steady }) in
      record {
        steady = steady_on sizes m (found.Held slot word (content word)) steady;
        holds = ap (λ (w : World). held_by w.table (Slot slot word)) (behind_fits m (found.Held slot word (content word)) fits)
            ∙ (taken_in m (found.Held slot word (content word)) fits steady.kept).word slot word (content word) refl;
      }

  -- it comes to hold it after those of a list of which one says so
  pub comes_behind : (m : World) (fs : List Found) → IsIn (found.Held slot word (content word)) fs → Each (Agrees slot content) fs
      → AreSteady sizes m → Hold (behind_findings m fs)
  unfolding behind_findings
  comes_behind m [] there agree steady = absurd there
  comes_behind m (f ∷ fs) (inl same) agree steady
      = hold_behind (behind_finding m f) fs agree.1 (subst (λ g. Hold (behind_finding m g)) (sym same) (comes_to_hold m steady))
  comes_behind m (f ∷ fs) (inr later) agree steady = comes_behind (behind_finding m f) fs later agree.1 (steady_on sizes m f steady)
