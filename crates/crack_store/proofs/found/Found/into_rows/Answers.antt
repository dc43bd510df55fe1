use Rattle.std.specs.List.Sorted.{IsPermutation}
use Rattle.std.proofs.lemmas.List.Sorted.{IsPermutation-refl, IsPermutation-trans, IsPermutation-append_right}
use Rattle.crack_store.proofs.found.Found.into_rows.Goals as goal
use Rattle.crack_store.proofs.found.Found.into_rows.Goals.{in-Nearly, in_default-order}

pub returns : goal.returns
returns c =
    let same : IsPermutation c.args.self.aside.items c.match-order-2.aside.items = elim c.match-order-2.branch [
      | in-Nearly w ↦ rw w.aside-is w.sort_unstable_by_key.ensures.permutation
      | in_default-order w ↦ rw w.aside-is (IsPermutation-refl _)
    ] in record {
      rows = IsPermutation-trans _ _ _ (IsPermutation-append_right c.args.self.rows.items _ _ same) (rw c.in_ok-append.ensures.items at c.sort.ensures.rows);
      rising = c.sort.ensures.rising;
      err = tt;
    }
