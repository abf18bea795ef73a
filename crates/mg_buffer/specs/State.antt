-- A buffer as its callers see it.
use Rattle.std.specs.Prelude.{◌≡◌, ◌⊎◌, ℕ, List, [], Option, None, refl}
use Rattle.std.proofs.Common.{inl, inr}
use Rattle.std.specs.Coded.{Coded, code_by, coded×, coded⊎, coded_ℕ, coded_list, coded_option}
use Rattle.rga_ops.specs.Identifier.{Identifier, identifier_code, root}
use Rattle.rga_ops.specs.Content.{Content, content_code}
use Rattle.rga_ops.specs.declared.op.Op.{Op}
use Rattle.rga_ops.specs.declared.op.Op.TheVariants.{Insert, Delete}
use Rattle.rga_doc.specs.Document.{Document}
use Rattle.mg_buffer.specs.Groups.{Past, past_code}

-- what the document holds, how many identifiers it may know, and the number of its replica; the name; the elements that
-- point and mark are behind; the undo groups, oldest first; in a run of undos the index of the group undone last; and the
-- operations that are not saved
pub record State : Type 0 where
  pub content : Content
  pub limit : ℕ
  pub replica : ℕ
  pub name : List ℕ
  pub point : Identifier
  pub mark : Option Identifier
  pub groups : List Past
  pub undone : Option ℕ
  pub unsaved : List Op

-- that of a document with a name and operations that are not saved: point at the front, no mark and no group
abbrev pub new_state : Document → List ℕ → List Op → State
new_state d name unsaved = record {
  content = d.content;
  limit = d.limit;
  replica = d.replica;
  name = name;
  point = root;
  mark = None;
  groups = [];
  undone = None;
  unsaved = unsaved;
}

-- ---- how it is stored

abbrev parts_of_op : Op → (Identifier × (Identifier × ℕ)) ⊎ Identifier
parts_of_op (Insert id parent ch) = inl (id, (parent, ch))
parts_of_op (Delete id) = inr id

abbrev op_of_parts : (Identifier × (Identifier × ℕ)) ⊎ Identifier → Op
op_of_parts (inl p) = Insert p.0 p.1.0 p.1.1
op_of_parts (inr id) = Delete id

pub same_op : (op : Op) → op_of_parts (parts_of_op op) ≡ op
same_op (Insert id parent ch) = refl
same_op (Delete id) = refl

abbrev op_code : Coded Op
op_code = code_by ((Identifier × (Identifier × ℕ)) ⊎ Identifier) (coded⊎ (coded× identifier_code (coded× identifier_code coded_ℕ)) identifier_code) parts_of_op op_of_parts same_op

-- the document's part, and what stands beside it
abbrev StateParts : Type 0
StateParts = (Content × (ℕ × (ℕ × List ℕ))) × ((Identifier × Option Identifier) × (List Past × (Option ℕ × List Op)))

abbrev parts_of_state : State → StateParts
parts_of_state b = ((b.content, (b.limit, (b.replica, b.name))), ((b.point, b.mark), (b.groups, (b.undone, b.unsaved))))

abbrev state_of_parts : StateParts → State
state_of_parts p = record {
  content = p.0.0;
  limit = p.0.1.0;
  replica = p.0.1.1.0;
  name = p.0.1.1.1;
  point = p.1.0.0;
  mark = p.1.0.1;
  groups = p.1.1.0;
  undone = p.1.1.1.0;
  unsaved = p.1.1.1.1;
}

abbrev pub state_code : Coded State
state_code =
    code_by StateParts
    (coded× (coded× content_code (coded× coded_ℕ (coded× coded_ℕ (coded_list coded_ℕ))))
    (coded× (coded× identifier_code (coded_option identifier_code)) (coded× (coded_list past_code) (coded× (coded_option coded_ℕ) (coded_list op_code)))))
    parts_of_state state_of_parts (λ _. refl)
