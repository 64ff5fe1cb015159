-- Structs of no field and of one, made in a walk. Assumes `Logic`.
use Rattle.std.proofs.Common.{List, [], ◌∷◌, refl}
use seplogic.Ra.Ura.{Ura}
use mir.Val.{Val, vstruct, vcons, vnil}
use types.Logic.{Logic}
use types.Kit.{Goal, Step, step, Item, ‵, ◌$◌, move, fjoin, fpack, feq_i}
use denote.RattleType.{RattleType, Valss}
use denote.Steps.{nothing}
use denote.Struct.Struct.{Struct, within}

-- a struct with one field, of which only that counts
abbrev pub Around : RattleType → RattleType
Around R = Struct (record { name = []; args = []; types = []; fields = R ∷ [] })

-- a struct with no field
abbrev pub Bare : RattleType
Bare = Struct (record { name = []; args = []; types = []; fields = [] })

-- how a struct with no field is stored, and one round a value
abbrev pub bare : Val
bare = vstruct vnil

abbrev pub round : Val → Val
round v = vstruct (vcons v vnil)

module _ {M : Type 1} {𝓤 : Ura M} {𝓛 : Logic 𝓤} {K : Type 0} {Γ : List (Item 𝓤)} {G : Goal 𝓤 𝓛.H} where
  -- who owns the field owns the struct
  pub wraps : K → (R : RattleType) (x : R.Denot) (v : Val)
      → Step K 𝓛 (‵ ((Around R).own_val (x, tt) (round v ∷ [])) ∷ Γ) G (‵ (R.own_val x (v ∷ [])) ∷ Γ) G
  wraps t R x v = step (λ s.
      nothing t $ move t (1 ∷ 0 ∷ []) $ fjoin t $ feq_i t (List Val) (round v ∷ []) (round v ∷ []) refl $ fjoin t $
      fpack t (Valss (R ∷ []))
      (within (record { name = []; args = []; types = []; fields = R ∷ [] }) (x, tt) (round v ∷ [])) (v ∷ [], tt) $ s)

  -- nothing is owned by a struct with no field
  pub wraps_nothing : K → Step K 𝓛 (‵ (Bare.own_val tt (bare ∷ [])) ∷ Γ) G Γ G
  wraps_nothing t = step (λ s.
      nothing t $ feq_i t (List Val) (bare ∷ []) (bare ∷ []) refl $ fjoin t $
      fpack t (Valss []) (within (record { name = []; args = []; types = []; fields = [] }) tt (bare ∷ [])) tt $ s)
