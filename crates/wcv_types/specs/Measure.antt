-- The size and the depth of a type tree.
use Rattle.std.specs.Prelude.{ℕ, suc, max, ◌+◌}
use Rattle.wcv_types.specs.Tree.{Head, nothing, defined, type_entity, core_module, core_instance, Former, named, own_of, borrow_of, flags_of, enum_of, Tree, node, Parts, none, part}

-- how a node counts
pub data Weight : Type 0 where
  -- not at all
  nil : Weight
  -- 1, whatever its parts
  one : Weight
  -- 1 and its parts
  whole : Weight
  -- as its first part
  first : Weight
  -- as it says itself
  stated : ℕ → Weight

-- a handle, flags, an enum and a named primitive count 1
abbrev pub former_weight : Former → Weight
former_weight (named p) = one
former_weight own_of = one
former_weight borrow_of = one
former_weight (flags_of ls) = one
former_weight (enum_of ls) = one
former_weight _ = whole

-- how a head counts
abbrev pub weight : {R I : Type 0} → Head R I → Weight
weight nothing = nil
weight (defined i k) = former_weight k
weight type_entity = first
weight (core_module i n) = stated n
weight (core_instance i n) = stated n
weight _ = whole

-- the size of a node, from that of its first part and that of all
abbrev pub weigh : Weight → ℕ → ℕ → ℕ
weigh nil f n = 0
weigh one f n = 1
weigh whole f n = suc n
weigh first f n = f
weigh (stated k) f n = k

-- its depth: one that states its size is deeper than its parts
abbrev pub deepen : Weight → ℕ → ℕ → ℕ
deepen nil f n = 0
deepen one f n = 1
deepen whole f n = suc n
deepen first f n = f
deepen (stated k) f n = suc n

-- a node counts 1 and its parts, each as often as it occurs
abbrev mutual
  pub size : {R I : Type 0} → Tree R I → ℕ
  size (node h ps) = weigh (weight h) (first_size ps) (sizes ps)

  pub sizes : {R I : Type 0} → Parts R I → ℕ
  sizes none = 0
  sizes (part r t ps) = size t + sizes ps

  pub first_size : {R I : Type 0} → Parts R I → ℕ
  first_size none = 0
  first_size (part r t ps) = size t

-- 1 and the greatest depth of the parts
abbrev mutual
  pub depth : {R I : Type 0} → Tree R I → ℕ
  depth (node h ps) = deepen (weight h) (first_depth ps) (depths ps)

  pub depths : {R I : Type 0} → Parts R I → ℕ
  depths none = 0
  depths (part r t ps) = max (depth t) (depths ps)

  pub first_depth : {R I : Type 0} → Parts R I → ℕ
  first_depth none = 0
  first_depth (part r t ps) = depth t
