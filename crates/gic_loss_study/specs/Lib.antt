pub mod CountedEnds
