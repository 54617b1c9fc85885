-- Entries of a reference set, as the definitions see them.
use Rattle.std.specs.Prelude.{ℕ, List, map}
use Rattle.std.specs.Int.RustNames.{unsigned_abs}
use Rattle.hv_tables.specs.declared.bins.SliceKind.TheVariants.{P}
use Rattle.hv_group_model.specs.Structure.{Kept, ReferenceSet}
use Rattle.hv_stream_model.specs.Headers.{SliceHeader}
use Rattle.hv_decision.specs.declared.row.SetEntry.{SetEntry}

-- which picture of a set an entry is: how far it is from the picture that keeps it
abbrev pub kept_of : SetEntry → Kept
kept_of entry = record { distance = unsigned_abs entry.delta; is_used = entry.used }

abbrev pub side_of : List SetEntry → List Kept
side_of entries = map kept_of entries

-- the set of the entries before a picture and after it
abbrev pub set_of : List SetEntry → List SetEntry → ReferenceSet
set_of before after = record { before = side_of before; after = side_of after }

-- what is free of the header of a P picture with these entries
abbrev pub header_with : ℕ → List SetEntry → List SetEntry → ℕ → SliceHeader
header_with picture before after qp = record {
  slice_type = P;
  slice_pic_order_cnt_lsb = picture;
  references = set_of before after;
  qp = qp;
}
