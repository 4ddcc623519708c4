-- How a line is parted into fields, byte by byte. Assumes nothing.
use Rattle.std.specs.Prelude.{ℕ, Bool, cond, not, ◌&&◌, ◌||◌, List, [], ◌∷◌, ◌++◌, ◌==◌, nat_lt}
use Rattle.arrayvec.specs.ArrayVec.{array_vec_len}
use Rattle.desk.specs.declared.field.Field.{Field}
use Rattle.desk.specs.declared.line.Line.{Line}
use Rattle.desk.specs.declared.line.TheConstants.{FIELDS}
use Rattle.desk.specs.Fields.{is_nothing, empty_field, with_byte}

-- a space or a comment's mark ends a field, and nothing else does
abbrev pub ends_field : ℕ → Bool
ends_field b = b == 32 || b == 35

abbrev pub is_begun : Field → Bool
is_begun f = not (is_nothing f.numeral)

-- a field that was begun is put behind the others, where there is room
abbrev pub fields_ended : Line → List Field
fields_ended l = cond (is_begun l.current && nat_lt (array_vec_len l.fields) FIELDS) (l.fields.items ++ l.current ∷ []) l.fields.items

-- what a byte makes of a line: nothing more within a comment
abbrev pub fields_after : Line → ℕ → List Field
fields_after l b = cond l.comment l.fields.items (cond (ends_field b) (fields_ended l) l.fields.items)

abbrev pub current_after : Line → ℕ → Field
current_after l b = cond l.comment l.current (cond (ends_field b) empty_field (with_byte l.current b))
