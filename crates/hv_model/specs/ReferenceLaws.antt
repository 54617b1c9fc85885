-- The pictures of list 0 are those that the structure of a group refers to.
use Rattle.std.specs.Prelude.{◌≡◌, ℕ, suc, ◌<◌, ◌≤◌, length}
use Rattle.hv_types.specs.Configuration.{most_levels}
use Rattle.hv_group_model.specs.Structure.{coded_of}
use Rattle.hv_stream_model.specs.Headers.{SliceHeader, used_count}
use Rattle.hv_stream_model.specs.HeaderLaws.{header_of}
use Rattle.hv_slice_model.specs.Slices.{list_0}

-- list 0 has as many pictures as references are active (7.4.7.1, 8.3.4)
abbrev pub ListZeroHasTheActiveReferences : Type 0
ListZeroHasTheActiveReferences =
    (header : SliceHeader) → length (list_0 header) ≡ used_count header.references

-- of each picture of a group but the first, the used members of its set (8.3.2) are its references
-- in their order
abbrev pub SetsGiveTheReferences : Type 0
SetsGiveTheReferences =
    (count levels qp k : ℕ) → count ≤ 64 → levels ≤ most_levels → suc k < count →
    list_0 (header_of count levels qp (suc k)) ≡ (coded_of count levels (suc k)).references
