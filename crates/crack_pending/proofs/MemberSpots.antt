-- Which cells have a handle in a list, as rows come and go at spots.
use Rattle.std.proofs.Common.{◌≡◌, ◌≢◌, ℕ, ◌≤◌, ◌↔◌, Bool, true, false, not, List, [], ◌∷◌, ◌++◌, filter, length, get_or, set, ap, ◌∙◌, arith}
use Rattle.crack_arena.specs.Arena.{Handle, no_handle, times, slots}
use Rattle.crack_arena.proofs.Times.{times-nil}
use Rattle.crack_arena.specs.Memories.{Memory}
use Rattle.crack_pending.specs.Inside.{IsSpotWith}
use Rattle.crack_pending.specs.Keeps.{place_at, Has, IsSoundList, AreMembers}
use Rattle.crack_pending.specs.Spots.{kept}
use Rattle.crack_pending.proofs.Kept.{kept-at, kept-hole, kept-push}
use Rattle.crack_pending.proofs.Members.{members_more, members_less}
use Rattle.crack_pending.proofs.Taken.{times-parted}
use Rattle.crack_pending.proofs.Views.{once, place-within}

module _ {handles : List Handle} {remembered : List Memory} {stands : List Bool} {spots : List ℕ} {rows noted hint_place hint_spot : ℕ} (are : IsSoundList handles remembered stands spots rows noted hint_place hint_spot) {words : List ℕ} {covered : ℕ} (members : AreMembers words (kept stands handles) covered) (words' : List ℕ) (long : length words' ≡ length words) where
  -- a row comes, and its cell is put into the set
  pub members_push : (h : Handle) → Has words' h.slot → ((other : ℕ) → other ≢ h.slot → Has words' other ↔ Has words other) → AreMembers words' (kept (stands ++ true ∷ []) (handles ++ h ∷ [])) covered
  members_push h there others =
      rw (kept-push stands handles h are.stands_beside) (members_more words words' (kept stands handles) covered members h long there others)

  -- a row goes, and its cell is struck
  pub members_hole : {slot spot : ℕ} → IsSpotWith handles stands slot spot → ¬ Has words' slot → ((other : ℕ) → other ≢ slot → Has words' other ↔ Has words other) → AreMembers words' (kept (set stands spot false) handles) covered
  members_hole {slot} {spot} with gone others =
      let at : (get_or (kept stands handles) (place_at stands spot) no_handle).slot ≡ slot = ap (λ (h : Handle). h.slot) (kept-at stands handles spot no_handle are.stands_beside with.stands_there) ∙ with.of in
      rw (kept-hole stands handles spot are.stands_beside with.stands_there) (members_less words words' (kept stands handles) covered members (place_at stands spot) slot (place-within handles stands are.stands_beside spot with.stands_there) at (once handles stands are.stands_beside are.apart) long gone others)

module _ {words : List ℕ} {handles : List Handle} {covered : ℕ} (members : AreMembers words handles covered) (words' : List ℕ) (long : length words' ≡ length words) where
  -- the rows that pass a test go, and their cells are struck
  pub members_parted : (p : Handle → Bool) → ((slot : ℕ) → times slot (slots handles) ≤ 1) → ((slot : ℕ) → Has words' slot ↔ (Has words slot × (times slot (slots (filter p handles)) ≡ 0))) → AreMembers words' (filter (λ h. not (p h)) handles) covered
  members_parted p once struck = record {
    within = omega (arith, members.within, long);
    right = λ slot. (
      λ has.
          let both = (struck slot).0 has in
          omega (arith, (members.right slot).0 both.0, both.1, times-parted p slot handles),
      λ some.
          let one = once slot in
          let parted = times-parted p slot handles in
          (struck slot).1 ((members.right slot).1 (omega (arith, some, parted)), omega (arith, some, one, parted)),
    );
  }

  -- no bit is left
  pub members_emptied : ((slot : ℕ) → ¬ Has words' slot) → AreMembers words' [] covered
  members_emptied none = record {
    within = omega (arith, members.within, long);
    right = λ slot. (λ has. absurd (none slot has), λ some. absurd (omega (arith, some, times-nil slot)));
  }

  -- all rows go
  pub members_clear : ((slot : ℕ) → Has words' slot ↔ (Has words slot × (times slot (slots handles) ≡ 0))) → AreMembers words' [] covered
  members_clear struck = record {
    within = omega (arith, members.within, long);
    right = λ slot. (
      λ has.
          let both = (struck slot).0 has in
          absurd (omega (arith, (members.right slot).0 both.0, both.1)),
      λ some. absurd (omega (arith, some, times-nil slot)),
    );
  }
