-- A struct of no field, made in a walk. Assumes `Logic`.
use Rattle.std.proofs.Common.{List, [], ◌∷◌, refl}
use seplogic.Ra.Ura.{Ura}
use mir.Val.{Val, vstruct, vnil}
use types.Logic.{Logic}
use types.Kit.{Goal, Step, step, Item, ‵, ◌$◌, fjoin, fpack, feq_i}
use denote.RattleType.{RattleType, Valss}
use denote.Steps.{nothing}
use denote.Struct.Struct.{Struct, within}

-- a struct with no field
abbrev pub Bare : RattleType
Bare = Struct (record { name = []; args = []; types = []; fields = [] })

-- how it is stored
abbrev pub bare : Val
bare = vstruct vnil

module _ {M : Type 1} {𝓤 : Ura M} {𝓛 : Logic 𝓤} {K : Type 0} {Γ : List (Item 𝓤)} {G : Goal 𝓤 𝓛.H} where
  -- nothing is owned by a struct with no field
  pub wraps_nothing : K → Step K 𝓛 (‵ (Bare.own_val tt (bare ∷ [])) ∷ Γ) G Γ G
  wraps_nothing t = step (λ s.
      nothing t $ feq_i t (List Val) (bare ∷ []) (bare ∷ []) refl $ fjoin t $
      fpack t (Valss []) (within (record { name = []; args = []; types = []; fields = [] }) tt (bare ∷ [])) tt $ s)
