pub mod KeysInOrder
