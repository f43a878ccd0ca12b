-- What parts are to the nodes of an arena.
use Rattle.std.proofs.Common.{List, [], ◌∷◌, map, Some}
use Rattle.std.specs.Prelude.{Option}
use Rattle.wcv_types.specs.Tree.{Text, Role, here, label}
use Rattle.wcv_types.specs.Unfold.{Slots, value_slots, field_slots, defined_slots, option_slot}
use Rattle.wcv_types.specs.declared.shapes.ComponentDefinedType.{ComponentDefinedType}
use Rattle.wcv_types.specs.declared.shapes.ComponentDefinedType.TheVariants as d
use Rattle.wcv_types.specs.declared.shapes.ComponentValType.{ComponentValType}

-- P holds of the role of each slot
abbrev pub EachRole : (Role → Type 0) → Slots → Type 0
EachRole P [] = Unit {0}
EachRole P (s ∷ ss) = P s.0 × EachRole P ss

-- value types stand by place, or under labels
module _ (P : Role → Type 0) (placed : P here) (labelled : (l : Text) → P (label l)) where
  fields_roles : (fs : List (Text × ComponentValType)) → EachRole P (value_slots (map (λ f. (label f.0, Some f.1)) fs))
  fields_roles [] = tt
  fields_roles (f ∷ fs) = (labelled f.0, fields_roles fs)

  cases_roles : (cs : List (Text × Option ComponentValType)) → EachRole P (value_slots (map (λ c. (label c.0, c.1)) cs))
  cases_roles [] = tt
  cases_roles (c ∷ cs) = (labelled c.0, cases_roles cs)

  values_roles : (ts : List ComponentValType) → EachRole P (value_slots (map (λ t. (here, Some t)) ts))
  values_roles [] = tt
  values_roles (t ∷ ts) = (placed, values_roles ts)

  pub defined_roles : (s : ComponentDefinedType) → EachRole P (defined_slots s)
  defined_roles (d.Record fs) = fields_roles fs.items
  defined_roles (d.Variant cs) = cases_roles cs.items
  defined_roles (d.Tuple ts) = values_roles ts.items
  defined_roles (d.List t) = (placed, tt)
  defined_roles (d.Map k t) = (placed, (placed, tt))
  defined_roles (d.FixedLengthList t l) = (placed, tt)
  defined_roles (d.Option t) = (placed, tt)
  defined_roles (d.Result o e) = (placed, (placed, tt))
  defined_roles (d.Future o) = (placed, tt)
  defined_roles (d.Stream o) = (placed, tt)
  defined_roles (d.Primitive q) = tt
  defined_roles (d.Flags ns) = tt
  defined_roles (d.Enum ns) = tt
  defined_roles (d.Own r) = (placed, tt)
  defined_roles (d.Borrow r) = (placed, tt)

  pub params_roles : (fs : List (Text × ComponentValType)) (o : Option ComponentValType) → EachRole P (field_slots fs ((here, option_slot o) ∷ []))
  params_roles [] o = (placed, tt)
  params_roles (f ∷ fs) o = (labelled f.0, params_roles fs o)
