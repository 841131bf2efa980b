-- The limits of what is read, as the code has them.
use Rattle.std.specs.Prelude.{ℕ, ◌-◌}
use Rattle.ja_base.specs.declared.limit.TheConstants.{MAX_CATEGORIES, MAX_CLASS_FILES, MAX_FILE_BYTES, MAX_FRAME_VALUES, MAX_NUMBERED, MAX_TOTAL_BYTES, MAX_VARIABLES}

-- the most class files that a folder may hold
abbrev pub max_class_files : ℕ
max_class_files = MAX_CLASS_FILES

-- the most bytes that one file may have
abbrev pub max_file_bytes : ℕ
max_file_bytes = MAX_FILE_BYTES

-- the most bytes that all files that are read may have together
abbrev pub max_total_bytes : ℕ
max_total_bytes = MAX_TOTAL_BYTES

-- the most values that a frame may have
abbrev pub max_frame_values : ℕ
max_frame_values = MAX_FRAME_VALUES

-- the most categories of marks that a table may have
abbrev pub max_categories : ℕ
max_categories = MAX_CATEGORIES

-- the most classes, fields, methods and instructions that a program numbers
abbrev pub max_numbered : ℕ
max_numbered = MAX_NUMBERED

-- how many variables a diagram may have
abbrev pub max_variables : ℕ
max_variables = MAX_VARIABLES

-- the last variable that a diagram may have; the first is 0
abbrev pub last_variable : ℕ
last_variable = MAX_VARIABLES - 1
