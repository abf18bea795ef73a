-- Bytes with a name: what the keys send.
use Rattle.std.specs.Prelude.{ℕ}

-- C-g
abbrev pub cancel_byte : ℕ
cancel_byte = 7

abbrev pub tab_byte : ℕ
tab_byte = 9

abbrev pub return_byte : ℕ
return_byte = 13

-- C-q
abbrev pub quote_byte : ℕ
quote_byte = 17

-- C-r
abbrev pub search_backward_byte : ℕ
search_backward_byte = 18

-- C-s
abbrev pub search_forward_byte : ℕ
search_forward_byte = 19

-- C-u
abbrev pub universal_argument_byte : ℕ
universal_argument_byte = 21

abbrev pub control_x_byte : ℕ
control_x_byte = 24

abbrev pub escape_byte : ℕ
escape_byte = 27

abbrev pub delete_byte : ℕ
delete_byte = 127
