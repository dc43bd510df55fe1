-- The lists of an audit.
use Rattle.std.specs.Prelude.{Bool, List, [], ◌∷◌, ◌++◌, Option, Some, None, if◌then◌else◌, option_map}
use Rattle.std.specs.Global.{Vec}

-- the items of a list, if there is one, else none
abbrev pub listed : {X : Type 0} → Option (Vec X) → Option (List X)
listed list = option_map (λ items. items.items) list

-- an empty list if there is an audit, else no list
abbrev pub empty_list : {X : Type 0} → Bool → Option (List X)
empty_list audited = if audited then Some [] else None

-- the list with one more item, if there is a list, else none
abbrev pub and_one : {X : Type 0} → Option (List X) → X → Option (List X)
and_one list item = option_map (λ items. items ++ item ∷ []) list
