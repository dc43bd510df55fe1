-- The tags after an exchange with the row in hand.
use Rattle.std.proofs.Common.{◌≡◌, ℕ, ◌<◌, List, length, get_or, set, sym, ◌∙◌, arith, length-set}
use Rattle.std.proofs.lemmas.List.{get_or-set_same, get_or-set_other, set-set, set_comm}
use Rattle.crack_column.specs.declared.tag.Tag.{Tag}
use Rattle.crack_column.specs.Inside.{no_tag}
use Rattle.crack_column.specs.Held.{tags_with}
use Rattle.crack_column.specs.Keeps.{IsHeld}
use Rattle.crack_column.proofs.PlaceLaws.{unread-set}

module _ (ts : List Tag) (len place : ℕ) (hand there : Tag) (first : place < len) (some : len < length ts) (is : there ≡ get_or ts place no_tag) where
  -- the tags with the hand after the last place, and those afterwards
  abbrev before : List Tag
  before = tags_with ts len hand

  abbrev after : List Tag
  after = tags_with (set ts place hand) len there

  pub hand_is : get_or before len no_tag ≡ hand
  hand_is = get_or-set_same ts len hand no_tag some

  pub there_is : get_or before place no_tag ≡ there
  there_is = get_or-set_other ts len place hand no_tag (λ e. absurd (omega (arith, e))) ∙ sym is

  -- it is an exchange with the row that is after the last place
  pub swapped-held : after ≡ set (set before place (get_or before len no_tag)) len (get_or before place no_tag)
  swapped-held =
      let moved : set before place hand ≡ set (set ts place hand) len hand = set_comm ts len place hand hand (λ e. absurd (omega (arith, e))) in
      rw (hand_is, there_is, moved) (sym (set-set (set ts place hand) len hand there))

  pub IsHeld-exchange : (unread : ℕ) → IsHeld ts len unread hand → IsHeld (set ts place hand) len unread there
  IsHeld-exchange unread held = record {
    some = omega (arith, length-set ts place hand);
    few = omega (arith, length-set ts place hand, held.few);
    counted =
        let same = rw (← is) at (unread-set ts place hand len (omega arith) first) in
        omega (arith, same, held.counted);
  }
