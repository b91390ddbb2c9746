pub mod GameFormIsOfTree
